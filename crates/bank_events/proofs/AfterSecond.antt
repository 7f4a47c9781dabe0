-- What is known after a fill or an eviction of level two.
use Rattle.std.proofs.Common.{◌≡◌, ℕ, Bool, true, false, cond, ◌||◌, ◌==◌, List, ◌++◌, map, Some, None, is_some, refl}
use Rattle.std.proofs.Common.{sym, ap, ◌∙◌, subst, eq-eqb}
use mathlib.Core.Path.{ap₂}
use Rattle.std.proofs.lemmas.List.Folds.{list_any-append}
use Rattle.std.proofs.Math.Bool.{or-false}
use Rattle.arrayvec.specs.ArrayVec.{ArrayVec}
use Rattle.lf_rules.specs.declared.event.Event.TheVariants.{Fill2, Evict2}
use Rattle.lf_rules.specs.Address.{Masks}
use Rattle.lf_rules.specs.Lines.{line_at, has_line, with_line, without_line, clean_masks}
use Rattle.lf_rules.specs.Registers.{Held, holds, targets_of, released}
use Rattle.lf_rules.specs.State.{Asked, Slice}
use Rattle.lf_rules.specs.Table.{is_among, block_asked}
use Rattle.bank_cells.specs.declared.known.Fetch.TheVariants as fetch
use Rattle.bank_cells.specs.declared.known.First.{First}
use Rattle.bank_cells.specs.declared.known.First.TheVariants as level1
use Rattle.bank_cells.specs.declared.known.Second.{Second}
use Rattle.bank_cells.specs.declared.known.Second.TheVariants as level2
use Rattle.lf_levels.proofs.Entries.{line_put, line_gone, rising-with, rising-without}
use Rattle.bank_events.specs.Apart.{asks_for}
use Rattle.bank_events.specs.Known.{Known, register_of, is_second_present, is_second_in_flight, second_register_of}
use Rattle.bank_events.specs.KnownAfter.{known_after, first_supplied}
use Rattle.bank_events.specs.KnownRules.{set2, known_rules}
use Rattle.bank_events.specs.Agrees.{BlockAgrees, SecondAgrees, line2_of, masks_of, GoesOnAlike}
use Rattle.bank_events.proofs.Blocks.{any_gone}
use Rattle.bank_events.proofs.Cleared.{masks_same, masks_clean, cleared_here, cleared_other}
use Rattle.bank_events.proofs.Holding.{bank_holds}
use Rattle.bank_events.proofs.Kept.{block_kept}
use Rattle.bank_events.proofs.Updates.{at_each}
use Rattle.bank_events.proofs.Rising.{counted-with, counted-without}
use Rattle.bank_events.proofs.Supplying.{asked_is_missed, supplied_among, supplied_is, targets_fetched}
use Rattle.bank_events.proofs.Supplying.{others_fetched}
use Rattle.bank_events.proofs.Waiting.{holds_in-released}

itself : (x : ℕ) → (x == x) ≡ true
itself x = eq-eqb x x refl

-- ---- what level two has, by what is known

-- no line of what it fetches, and one of what is present, which it does not fetch
no_line : (s : Second) (masks : Masks) → is_second_in_flight s ≡ true → line2_of s masks ≡ None
no_line level2.Absent masks e = absurd (cc e)
no_line level2.Present masks e = absurd (cc e)
no_line (level2.InFlight register) masks e = refl

some_line : (s : Second) (masks : Masks) → is_second_present s ≡ true → is_some (line2_of s masks) ≡ true
some_line level2.Absent masks e = absurd (cc e)
some_line (level2.InFlight register) masks e = absurd (cc e)
some_line level2.Present masks e = refl

not_fetched : (s : Second) → is_second_present s ≡ true → is_second_in_flight s ≡ false
not_fetched level2.Absent e = refl
not_fetched (level2.InFlight register) e = absurd (cc e)
not_fetched level2.Present e = refl

-- ---- fills

-- the slice after a fill of level two, which supplies these blocks
abbrev filled : Slice → ℕ → Masks → List ℕ → Slice
filled slice second masks blocks = record slice {
  regs2 = released slice.regs2 second;
  lines2 = with_line slice.lines2 second masks;
  supplied = slice.supplied ++ blocks;
}

module _ (slice : Slice) (second : ℕ) (masks : Masks) where
  supplied_more : (blocks : List ℕ) (y : ℕ) → is_among (slice.supplied ++ blocks) y
      ≡ (is_among slice.supplied y || is_among blocks y)
  supplied_more blocks y = list_any-append (λ b. b == y) slice.supplied blocks

  -- a block that a target asks for
  filled_here : (blocks : List ℕ) (y : ℕ) (f : First) (w : ℕ) → f ≡ level1.InFlight (register_of f) fetch.Missed →
      is_among blocks y ≡ true → BlockAgrees slice y f w →
      BlockAgrees (filled slice second masks blocks) y (level1.InFlight (register_of f) fetch.Supplied) w
  filled_here blocks y level1.Absent w is among b = absurd (cc is)
  filled_here blocks y level1.Present w is among b = absurd (cc is)
  filled_here blocks y (level1.InFlight register fetch.Asked) w is among b = absurd (cc is)
  filled_here blocks y (level1.InFlight register fetch.Supplied) w is among b = absurd (cc is)
  filled_here blocks y (level1.InFlight register fetch.Missed) w is among b = record {
    line = b.line;
    asked = b.asked;
    supplied = supplied_more blocks y ∙ ap₂ (λ p q. p || q) b.supplied among;
    waits = b.waits;
    asker = λ e. absurd (cc e);
    primary = b.primary;
    stores = b.stores;
    clean = tt;
  }

  -- another block
  filled_other : (blocks : List ℕ) (y : ℕ) (f : First) (w : ℕ) → is_among blocks y ≡ false → BlockAgrees slice y f w →
      BlockAgrees (filled slice second masks blocks) y f w
  filled_other blocks y f w among b = block_kept slice (filled slice second masks blocks) y f w refl refl
      (λ there. refl)
      (supplied_more blocks y ∙ ap (λ q. is_among slice.supplied y || q) among ∙ or-false (is_among slice.supplied y))
      refl (λ r held. held) refl b

  -- the second-level block
  filled_second : (blocks : List ℕ) (clean : Masks) → clean ≡ masks →
      SecondAgrees (filled slice second masks blocks) second level2.Present clean
  filled_second blocks clean same = record {
    line = line_put slice.lines2 second masks second
        ∙ ap (λ b. cond b (Some masks) (line_at slice.lines2 second)) (itself second) ∙ ap Some (sym same);
    fetched = any_gone (λ (h : Held Asked). h.block) slice.regs2 second second
        ∙ ap (λ b. cond b false (holds slice.regs2 second)) (itself second);
    primary = λ e. absurd (cc e);
  }

  -- another second-level block
  filled_others : (blocks : List ℕ) (k : ℕ) (s : Second) (old new : Masks) → (second == k) ≡ false → new ≡ old →
      SecondAgrees slice k s old → SecondAgrees (filled slice second masks blocks) k s new
  filled_others blocks k s old new apart same b = record {
    line = line_put slice.lines2 second masks k
        ∙ ap (λ c. cond c (Some masks) (line_at slice.lines2 k)) apart ∙ b.line ∙ ap (line2_of s) (sym same);
    fetched = any_gone (λ (h : Held Asked). h.block) slice.regs2 second k
        ∙ ap (λ c. cond c false (holds slice.regs2 k)) apart ∙ b.fetched;
    primary = λ e. holds_in-released slice.regs2 second (second_register_of s) k apart ∙ b.primary e;
  }

-- A fill of level two goes on alike.
pub after_fill2 : (second : ℕ) (bytes : ArrayVec ℕ) → GoesOnAlike (Fill2 second bytes)
after_fill2 second bytes shape now k log stands a none = record {
  queue = a.queue;
  ready = a.ready;
  memory = a.memory;
  waiting = a.waiting;
  regs2 = ap (λ (hs : List (Held Asked)). released hs second) a.regs2;
  blocks = block_after;
  seconds = at_each (λ s f. SecondAgrees after s f (masks_of shape known s)) k.second second level2.Present
      (filled_second now.slice second (clean_masks shape.factor) supplied (masks_of shape known second)
      (masks_clean shape known second (cleared_here shape k.dirty second)))
      (λ s apart. filled_others now.slice second (clean_masks shape.factor) supplied s (k.second s) (masks_of shape k s)
      (masks_of shape known s) apart
      (masks_same shape known s k (λ place. cleared_other shape k.dirty second s place apart)) (a.seconds s));
  fetching = others_fetched shape k.first k.regs2 second a.fetching;
  counts1 = a.counts1;
  counts2 = counted-with (set2 shape) k.counts2 now.slice.lines2 a.counts2 second (clean_masks shape.factor) absent;
  sorted1 = a.sorted1;
  sorted2 = rising-with now.slice.lines2 second (clean_masks shape.factor) a.sorted2;
}
  where
    in_flight : is_second_in_flight (k.second second) ≡ true
    in_flight = (bank_holds (known_rules shape k log (Fill2 second bytes)) none).0

    absent : line_at now.slice.lines2 second ≡ None
    absent = (a.seconds second).line ∙ no_line (k.second second) (masks_of shape k second) in_flight

    supplied : List ℕ
    supplied = map block_asked (targets_of now.slice.regs2 second)

    after : Slice
    after = filled now.slice second (clean_masks shape.factor) supplied

    among : (y : ℕ) → is_among supplied y ≡ asks_for (targets_of k.regs2 second) y
    among y = ap (λ (hs : List (Held Asked)). is_among (map block_asked (targets_of hs second)) y) a.regs2
        ∙ supplied_among shape k.first k.regs2 second a.fetching y

    block_by : (y : ℕ) (b : Bool) → asks_for (targets_of k.regs2 second) y ≡ b → BlockAgrees after y
        (cond b (level1.InFlight (register_of (k.first y)) fetch.Supplied) (k.first y)) (k.written y)
    block_by y true e = filled_here now.slice second (clean_masks shape.factor) supplied y (k.first y) (k.written y)
        (asked_is_missed shape k.first (targets_of k.regs2 second) y
        (targets_fetched shape k.first k.regs2 second a.fetching) e)
        (among y ∙ e) (a.blocks y)
    block_by y false e = filled_other now.slice second (clean_masks shape.factor) supplied y (k.first y) (k.written y)
        (among y ∙ e) (a.blocks y)

    block_after : (y : ℕ) → BlockAgrees after y (first_supplied k.first (targets_of k.regs2 second) y) (k.written y)
    block_after y = subst (λ f. BlockAgrees after y f (k.written y))
        (sym (supplied_is shape k.first k.regs2 second a.fetching y))
        (block_by y (asks_for (targets_of k.regs2 second) y) refl)

    known : Known
    known = known_after shape k log (Fill2 second bytes)

-- ---- evictions

-- the slice after an eviction of level two
abbrev evicted : Slice → ℕ → Slice
evicted slice second = record slice { lines2 = without_line slice.lines2 second }

module _ (slice : Slice) (second : ℕ) where
  -- the second-level block, and another
  evicted_here : (s : Second) (old masks : Masks) → is_second_present s ≡ true → SecondAgrees slice second s old →
      SecondAgrees (evicted slice second) second level2.Absent masks
  evicted_here s old masks present b = record {
    line = line_gone slice.lines2 second second
        ∙ ap (λ c. cond c None (line_at slice.lines2 second)) (itself second);
    fetched = b.fetched ∙ not_fetched s present;
    primary = λ e. absurd (cc e);
  }

  evicted_other : (k : ℕ) (s : Second) (masks : Masks) → (second == k) ≡ false → SecondAgrees slice k s masks →
      SecondAgrees (evicted slice second) k s masks
  evicted_other k s masks apart b = record {
    line = line_gone slice.lines2 second k ∙ ap (λ c. cond c None (line_at slice.lines2 k)) apart ∙ b.line;
    fetched = b.fetched;
    primary = b.primary;
  }

-- So does an eviction.
pub after_evict2 : (second : ℕ) (masks : Masks) (bytes : ArrayVec ℕ) → GoesOnAlike (Evict2 second masks bytes)
after_evict2 second masks bytes shape now k log stands a none = record {
  queue = a.queue;
  ready = a.ready;
  memory = a.memory;
  waiting = a.waiting;
  regs2 = a.regs2;
  blocks = λ y. record {
    line = (a.blocks y).line;
    asked = (a.blocks y).asked;
    supplied = (a.blocks y).supplied;
    waits = (a.blocks y).waits;
    asker = (a.blocks y).asker;
    primary = (a.blocks y).primary;
    stores = (a.blocks y).stores;
    clean = (a.blocks y).clean;
  };
  seconds = at_each (λ s f. SecondAgrees (evicted now.slice second) s f (masks_of shape k s)) k.second second
      level2.Absent
      (evicted_here now.slice second (k.second second) (masks_of shape k second) (masks_of shape k second) present
      (a.seconds second))
      (λ s apart. evicted_other now.slice second s (k.second s) (masks_of shape k s) apart (a.seconds s));
  fetching = a.fetching;
  counts1 = a.counts1;
  counts2 = counted-without (set2 shape) k.counts2 now.slice.lines2 a.counts2 second a.sorted2 there;
  sorted1 = a.sorted1;
  sorted2 = rising-without now.slice.lines2 second a.sorted2;
}
  where
    present : is_second_present (k.second second) ≡ true
    present = (bank_holds (known_rules shape k log (Evict2 second masks bytes)) none).0

    there : has_line now.slice.lines2 second ≡ true
    there = ap is_some (a.seconds second).line ∙ some_line (k.second second) (masks_of shape k second) present
