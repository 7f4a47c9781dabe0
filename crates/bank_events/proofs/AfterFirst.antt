-- What is known after level one fills or evicts a block.
use Rattle.std.proofs.Common.{◌≡◌, ℕ, Bool, true, false, cond, not, ◌||◌, ◌==◌, Some, None, is_some, refl, sym, ap}
use Rattle.std.proofs.Common.{◌∙◌, subst, eqb-true, eq-eqb}
use Rattle.std.specs.Prelude.{bit_or, unwrap_or}
use Rattle.arrayvec.specs.ArrayVec.{ArrayVec}
use Rattle.lf_rules.specs.declared.mask.Mask.{Mask}
use Rattle.lf_rules.specs.declared.shape.Shape.{Shape}
use Rattle.lf_rules.specs.declared.event.Event.TheVariants.{Fill1, Evict1}
use Rattle.lf_rules.specs.Address.{Masks, second_of, place_of}
use Rattle.lf_rules.specs.Lines.{line_at, has_line, dirty_masks, marked, no_masks}
use Rattle.lf_rules.specs.Registers.{Held, holds}
use Rattle.lf_rules.specs.State.{Missed, Local}
use Rattle.lf_rules.specs.Table.{store_bytes, is_asked, is_among}
use Rattle.lf_levels.proofs.Entries.{line_put, line_gone, rising-with, rising-without}
use Rattle.bank_cells.specs.declared.known.Fetch.TheVariants as fetch
use Rattle.bank_cells.specs.declared.known.First.{First}
use Rattle.bank_cells.specs.declared.known.First.TheVariants as level1
use Rattle.bank_cells.specs.declared.known.Second.{Second}
use Rattle.bank_cells.specs.declared.known.Second.TheVariants as level2
use Rattle.bank_events.specs.Apart.{EachStands, stands, asks_for}
use Rattle.bank_events.specs.Known.{Known, is_missed, register_of}
use Rattle.bank_events.specs.KnownRules.{known_rules, known_broken, set1, set2}
use Rattle.bank_events.specs.KnownAfter.{known_after}
use Rattle.bank_events.specs.Agrees.{Agrees, BlockAgrees, GoesOnAlike, after_event, line2_of, masks_of}
use Rattle.bank_events.proofs.Blocks.{any_gone}
use Rattle.bank_events.proofs.Dirty.{masks-other, masks-own}
use Rattle.bank_events.proofs.Holding.{BankHolds, bank_holds, implied, every5, no_way}
use Rattle.bank_events.proofs.Kept.{block_kept, fetching_kept, supplied_is, present_is, second_present_is}
use Rattle.bank_events.proofs.Rising.{counted-with, counted-without, counted-marked}
use Rattle.bank_events.proofs.Shown.{shown, by_shown}
use Rattle.bank_events.proofs.Updates.{at_each, at_each2}
use Rattle.bank_events.proofs.Waiting.{holds_in-released, stores-released}

-- ---- a fill

module _ (x : ℕ) (bytes : ArrayVec ℕ) (shape : Shape) (now : Local) (k : Known) (log : ℕ)
    (each : EachStands shape now.slice) (a : Agrees shape now (shown now k))
    (none : known_broken shape (shown now k) log (Fill1 x bytes) ≡ None) where
  -- the clauses of the event
  filled : BankHolds (known_rules shape (shown now k) log (Fill1 x bytes))
  filled = bank_holds (known_rules shape (shown now k) log (Fill1 x bytes)) none

  was_supplied : k.first x ≡ level1.InFlight (register_of (k.first x)) fetch.Supplied
  was_supplied = supplied_is (k.first x) filled.0

  waited : BlockAgrees now.slice x (level1.InFlight (register_of (k.first x)) fetch.Supplied) (k.written x)
  waited = subst (λ (f : First). BlockAgrees now.slice x f (k.written x)) was_supplied (a.blocks x)

  -- the block has a line, with the bytes of the stores that waited
  fill_own : BlockAgrees (after_event shape now log (Fill1 x bytes)).slice x level1.Present (k.written x)
  fill_own = record {
    line = line_put now.slice.lines1 x (store_bytes now.slice.waiting x) x
        ∙ ap (λ b. cond b (Some (store_bytes now.slice.waiting x)) (line_at now.slice.lines1 x)) (eq-eqb x x refl)
        ∙ ap Some (waited.stores refl);
    asked = waited.asked;
    supplied = any_gone (λ (b : ℕ). b) now.slice.supplied x x
        ∙ ap (λ b. cond b false (is_among now.slice.supplied x)) (eq-eqb x x refl);
    waits = any_gone (λ (h : Held Missed). h.block) now.slice.waiting x x
        ∙ ap (λ b. cond b false (holds now.slice.waiting x)) (eq-eqb x x refl);
    asker = λ e. no_way e;
    primary = λ e. no_way e;
    stores = λ e. no_way e;
    clean = tt;
  }

  fill_other : (y : ℕ) → (x == y) ≡ false
      → BlockAgrees (after_event shape now log (Fill1 x bytes)).slice y (k.first y) (k.written y)
  fill_other y apart = block_kept now.slice (after_event shape now log (Fill1 x bytes)).slice y (k.first y)
      (k.written y)
      (line_put now.slice.lines1 x (store_bytes now.slice.waiting x) y
      ∙ ap (λ b. cond b (Some (store_bytes now.slice.waiting x)) (line_at now.slice.lines1 y)) apart)
      refl (λ there. refl)
      (any_gone (λ (b : ℕ). b) now.slice.supplied x y
      ∙ ap (λ b. cond b false (is_among now.slice.supplied y)) apart)
      (any_gone (λ (h : Held Missed). h.block) now.slice.waiting x y
      ∙ ap (λ b. cond b false (holds now.slice.waiting y)) apart)
      (λ r held. holds_in-released now.slice.waiting x r y apart ∙ held)
      (stores-released now.slice.waiting x y apart) (a.blocks y)

  fill_shown : Agrees shape (after_event shape now log (Fill1 x bytes))
      (known_after shape (shown now k) log (Fill1 x bytes))
  fill_shown = record {
    queue = refl;
    ready = refl;
    memory = refl;
    waiting = refl;
    regs2 = refl;
    blocks = at_each (λ y f. BlockAgrees (after_event shape now log (Fill1 x bytes)).slice y f (k.written y))
        k.first x level1.Present fill_own fill_other;
    seconds = λ second.
        let same = a.seconds second in
        record { line = same.line; fetched = same.fetched; primary = same.primary };
    fetching = fetching_kept shape k.first x level1.Present now.slice.regs2 (ap is_missed was_supplied) a.fetching;
    counts1 = counted-with (set1 shape) k.counts1 now.slice.lines1 a.counts1 x (store_bytes now.slice.waiting x)
        waited.line;
    counts2 = a.counts2;
    sorted1 = rising-with now.slice.lines1 x (store_bytes now.slice.waiting x) a.sorted1;
    sorted2 = a.sorted2;
  }

-- A fill of level one goes on alike.
pub after_fill1 : (block : ℕ) (bytes : ArrayVec ℕ) → GoesOnAlike (Fill1 block bytes)
after_fill1 block bytes = by_shown (Fill1 block bytes) (fill_shown block bytes)

-- ---- an eviction

inner_line : (a f s w l2 : Bool) → stands a f s w true l2 ≡ true → l2 ≡ true
inner_line a f s w l2 e = implied _ _ (every5 (λ a f s w l2. not (stands a f s w true l2) || l2) refl a f s w l2) e

module _ (x : ℕ) (mask : Mask) (bytes : ArrayVec ℕ) (shape : Shape) (now : Local) (k : Known) (log : ℕ)
    (each : EachStands shape now.slice) (a : Agrees shape now (shown now k))
    (none : known_broken shape (shown now k) log (Evict1 x mask bytes) ≡ None) where
  abbrev new : Known
  new = known_after shape (shown now k) log (Evict1 x mask bytes)

  abbrev second : ℕ
  second = second_of shape x

  -- the clauses of the event
  evicted : BankHolds (known_rules shape (shown now k) log (Evict1 x mask bytes))
  evicted = bank_holds (known_rules shape (shown now k) log (Evict1 x mask bytes)) none

  was_there : k.first x ≡ level1.Present
  was_there = present_is (k.first x) evicted.0

  was : BlockAgrees now.slice x level1.Present (k.written x)
  was = subst (λ (f : First). BlockAgrees now.slice x f (k.written x)) was_there (a.blocks x)

  there1 : has_line now.slice.lines1 x ≡ true
  there1 = ap is_some was.line

  -- level two has a line of its second-level block
  there2 : has_line now.slice.lines2 second ≡ true
  there2 = inner_line (is_asked now.slice.asked x) (asks_for now.slice.regs2 x) (is_among now.slice.supplied x)
      (holds now.slice.waiting x) (has_line now.slice.lines2 second)
      (subst (λ b. stands (is_asked now.slice.asked x) (asks_for now.slice.regs2 x) (is_among now.slice.supplied x)
      (holds now.slice.waiting x) b (has_line now.slice.lines2 second) ≡ true) there1 (each.blocks x))

  second_there : k.second second ≡ level2.Present
  second_there = second_present_is (k.second second) (masks_of shape k second)
      (sym (ap is_some (a.seconds second).line) ∙ there2)

  masks_are : dirty_masks now.slice.lines2 second ≡ masks_of shape k second
  masks_are = ap (λ o. unwrap_or o no_masks) ((a.seconds second).line
      ∙ ap (λ (s : Second). line2_of s (masks_of shape k second)) second_there)

  abbrev new_masks : Masks
  new_masks = marked (dirty_masks now.slice.lines2 second) (place_of shape x) mask.0

  evict_own : BlockAgrees (after_event shape now log (Evict1 x mask bytes)).slice x level1.Absent 0
  evict_own = record {
    line = line_gone now.slice.lines1 x x ∙ ap (λ b. cond b None (line_at now.slice.lines1 x)) (eq-eqb x x refl);
    asked = was.asked;
    supplied = was.supplied;
    waits = was.waits;
    asker = λ e. no_way e;
    primary = λ e. no_way e;
    stores = λ e. no_way e;
    clean = refl;
  }

  evict_other : (y : ℕ) → (x == y) ≡ false
      → BlockAgrees (after_event shape now log (Evict1 x mask bytes)).slice y (k.first y) (k.written y)
  evict_other y apart = block_kept now.slice (after_event shape now log (Evict1 x mask bytes)).slice y (k.first y)
      (k.written y)
      (line_gone now.slice.lines1 x y ∙ ap (λ b. cond b None (line_at now.slice.lines1 y)) apart)
      refl (λ there. refl) refl refl (λ r held. held) refl (a.blocks y)

  -- what level two has of a second-level block: the block's own gains the bytes that were dirty
  second_line : (s : ℕ) → line_at (after_event shape now log (Evict1 x mask bytes)).slice.lines2 s
      ≡ line2_of (k.second s) (masks_of shape new s)
  second_line s = line_put now.slice.lines2 second new_masks s ∙ go (second == s) refl
    where
      go : (b : Bool) → (second == s) ≡ b → cond b (Some new_masks) (line_at now.slice.lines2 s)
          ≡ line2_of (k.second s) (masks_of shape new s)
      go true e = subst (λ (n : ℕ). Some new_masks ≡ line2_of (k.second n) (masks_of shape new n))
          (eqb-true second s e)
          (ap (λ (ms : Masks). Some (marked ms (place_of shape x) mask.0)) masks_are
          ∙ ap Some (masks-own shape k new x (bit_or (k.dirty x) mask.0) refl mask.0 refl)
          ∙ ap (λ (t : Second). line2_of t (masks_of shape new second)) (sym second_there))
      go false e = (a.seconds s).line ∙ ap (line2_of (k.second s)) (masks-other shape k new x
          (bit_or (k.dirty x) mask.0) refl s e)

  evict_shown : Agrees shape (after_event shape now log (Evict1 x mask bytes)) new
  evict_shown = record {
    queue = refl;
    ready = refl;
    memory = refl;
    waiting = refl;
    regs2 = refl;
    blocks = at_each2 (BlockAgrees (after_event shape now log (Evict1 x mask bytes)).slice) k.first k.written x
        level1.Absent 0 evict_own evict_other;
    seconds = λ s. record {
      line = second_line s;
      fetched = (a.seconds s).fetched;
      primary = (a.seconds s).primary;
    };
    fetching = fetching_kept shape k.first x level1.Absent now.slice.regs2 (ap is_missed was_there) a.fetching;
    counts1 = counted-without (set1 shape) k.counts1 now.slice.lines1 a.counts1 x a.sorted1 there1;
    counts2 = counted-marked (set2 shape) k.counts2 now.slice.lines2 a.counts2 second new_masks a.sorted2 there2;
    sorted1 = rising-without now.slice.lines1 x a.sorted1;
    sorted2 = rising-with now.slice.lines2 second new_masks a.sorted2;
  }

-- An eviction of level one goes on alike.
pub after_evict1 : (block : ℕ) (mask : Mask) (bytes : ArrayVec ℕ) → GoesOnAlike (Evict1 block mask bytes)
after_evict1 block mask bytes = by_shown (Evict1 block mask bytes) (evict_shown block mask bytes)
