-- What is known after an event of a block that level one asks for.
use Rattle.std.proofs.Common.{◌≡◌, ℕ, true, false, cond, ◌==◌, List, [], ◌∷◌, ◌++◌, None}
use Rattle.std.proofs.Common.{refl, sym, ap, ◌∙◌, eqb-true, eq-eqb}
use mathlib.Core.Path.{ap₂}
use Rattle.std.specs.List.{AllByRecursion}
use Rattle.std.proofs.lemmas.Bool.{both_ways}
use Rattle.lf_rules.specs.declared.shape.Shape.{Shape}
use Rattle.lf_rules.specs.declared.event.Event.TheVariants.{SecondHit, SecondPrimary, SecondMerge}
use Rattle.lf_rules.specs.Address.{Masks, second_of}
use Rattle.lf_rules.specs.Registers.{Held, holds}
use Rattle.lf_rules.specs.State.{update, Asked, Slice, Local}
use Rattle.lf_rules.specs.Table.{is_asked, is_among, without_asked, second_miss}
use Rattle.lf_rules.proofs.CopyStep.{push_all}
use Rattle.bank_cells.specs.declared.known.Fetch.TheVariants as fetch
use Rattle.bank_cells.specs.declared.known.First.{First}
use Rattle.bank_cells.specs.declared.known.First.TheVariants as level1
use Rattle.bank_cells.specs.declared.known.Second.{Second}
use Rattle.bank_cells.specs.declared.known.Second.TheVariants as level2
use Rattle.bank_events.specs.Known.{Known, is_asking, is_second_present, register_of, second_register_of}
use Rattle.bank_events.specs.KnownAfter.{known_second_miss}
use Rattle.bank_events.specs.KnownRules.{known_rules}
use Rattle.bank_events.specs.Agrees.{BlockAgrees, SecondAgrees, Agrees, IsFetched, line2_of, masks_of, GoesOnAlike}
use Rattle.bank_events.proofs.Asking.{asked_register_gone, asking_not_missed, still}
use Rattle.bank_events.proofs.Blocks.{any_push, any_gone}
use Rattle.bank_events.proofs.Holding.{BankHolds, bank_holds, is_not}
use Rattle.bank_events.proofs.Kept.{block_kept, fetching_kept}
use Rattle.bank_events.proofs.Updates.{update_same, at_each}
use Rattle.bank_events.proofs.Waiting.{holds_in-own, holds_in-more}

itself : (x : ℕ) → (x == x) ≡ true
itself x = eq-eqb x x refl

-- ---- level two hits

-- the slice after a hit of level two
abbrev hit : Slice → ℕ → Slice
hit slice x = record slice { asked = without_asked slice.asked x; supplied = slice.supplied ++ x ∷ [] }

-- the block itself, and another
hit_here : (slice : Slice) (x : ℕ) (f : First) (w : ℕ) → is_asking f ≡ true → BlockAgrees slice x f w →
    BlockAgrees (hit slice x) x (level1.InFlight (register_of f) fetch.Supplied) w
hit_here slice x level1.Absent w asks b = absurd (cc asks)
hit_here slice x level1.Present w asks b = absurd (cc asks)
hit_here slice x (level1.InFlight register fetch.Missed) w asks b = absurd (cc asks)
hit_here slice x (level1.InFlight register fetch.Supplied) w asks b = absurd (cc asks)
hit_here slice x (level1.InFlight register fetch.Asked) w asks b = record {
  line = b.line;
  asked = any_gone (λ (a : Asked). a.0) slice.asked x x ∙ ap (λ c. cond c false (is_asked slice.asked x)) (itself x);
  supplied = any_push (λ (n : ℕ). n) slice.supplied x x
      ∙ ap (λ c. cond c true (is_among slice.supplied x)) (itself x);
  waits = b.waits;
  asker = λ e. absurd (cc e);
  primary = b.primary;
  stores = b.stores;
  clean = tt;
}

hit_other : (slice : Slice) (x y : ℕ) (f : First) (w : ℕ) → (x == y) ≡ false → BlockAgrees slice y f w →
    BlockAgrees (hit slice x) y f w
hit_other slice x y f w apart b = block_kept slice (hit slice x) y f w refl
    (any_gone (λ (a : Asked). a.0) slice.asked x y ∙ ap (λ c. cond c false (is_asked slice.asked y)) apart)
    (λ there. asked_register_gone slice.asked x y apart)
    (any_push (λ (n : ℕ). n) slice.supplied x y ∙ ap (λ c. cond c true (is_among slice.supplied y)) apart)
    refl (λ r held. held) refl b

-- A hit of level two goes on alike.
pub after_second_hit : (x : ℕ) → GoesOnAlike (SecondHit x)
after_second_hit x shape now k log stands a none = record {
  queue = a.queue;
  ready = a.ready;
  memory = a.memory;
  waiting = a.waiting;
  regs2 = a.regs2;
  blocks = at_each (λ y f. BlockAgrees (hit now.slice x) y f (k.written y)) k.first x now_supplied
      (hit_here now.slice x (k.first x) (k.written x) asks (a.blocks x))
      (λ y apart. hit_other now.slice x y (k.first y) (k.written y) apart (a.blocks y));
  seconds = λ s. record {
    line = (a.seconds s).line;
    fetched = (a.seconds s).fetched;
    primary = (a.seconds s).primary;
  };
  fetching = fetching_kept shape k.first x now_supplied k.regs2 (asking_not_missed (k.first x) asks) a.fetching;
  counts1 = a.counts1;
  counts2 = a.counts2;
  sorted1 = a.sorted1;
  sorted2 = a.sorted2;
}
  where
    asks : is_asking (k.first x) ≡ true
    asks = (bank_holds (known_rules shape k log (SecondHit x)) none).0

    now_supplied : First
    now_supplied = level1.InFlight (register_of (k.first x)) fetch.Supplied

-- ---- misses of level two

-- the slice after a miss of level two that a register holds
abbrev missed : Slice → ℕ → Held Asked → Slice
missed slice x h = record slice { asked = without_asked slice.asked x; regs2 = slice.regs2 ++ h ∷ [] }

-- the block itself, and another
missed_here : (slice : Slice) (x : ℕ) (h : Held Asked) (f : First) (w : ℕ) → is_asking f ≡ true →
    BlockAgrees slice x f w → BlockAgrees (missed slice x h) x (level1.InFlight (register_of f) fetch.Missed) w
missed_here slice x h level1.Absent w asks b = absurd (cc asks)
missed_here slice x h level1.Present w asks b = absurd (cc asks)
missed_here slice x h (level1.InFlight register fetch.Missed) w asks b = absurd (cc asks)
missed_here slice x h (level1.InFlight register fetch.Supplied) w asks b = absurd (cc asks)
missed_here slice x h (level1.InFlight register fetch.Asked) w asks b = record {
  line = b.line;
  asked = any_gone (λ (a : Asked). a.0) slice.asked x x ∙ ap (λ c. cond c false (is_asked slice.asked x)) (itself x);
  supplied = b.supplied;
  waits = b.waits;
  asker = λ e. absurd (cc e);
  primary = b.primary;
  stores = b.stores;
  clean = tt;
}

missed_other : (slice : Slice) (x y : ℕ) (h : Held Asked) (f : First) (w : ℕ) → (x == y) ≡ false →
    BlockAgrees slice y f w → BlockAgrees (missed slice x h) y f w
missed_other slice x y h f w apart b = block_kept slice (missed slice x h) y f w refl
    (any_gone (λ (a : Asked). a.0) slice.asked x y ∙ ap (λ c. cond c false (is_asked slice.asked y)) apart)
    (λ there. asked_register_gone slice.asked x y apart) refl refl (λ r held. held) refl b

-- level two has no line of a second-level block that is not present
no_line : (s : Second) (masks : Masks) → is_second_present s ≡ false → line2_of s masks ≡ None
no_line level2.Absent masks e = refl
no_line (level2.InFlight register) masks e = refl
no_line level2.Present masks e = absurd (cc e)

-- a register takes a first target of the second-level block
first_target : (slice : Slice) (x : ℕ) (h : Held Asked) (s : Second) (masks : Masks) → is_second_present s ≡ false →
    SecondAgrees slice h.block s masks → SecondAgrees (missed slice x h) h.block (level2.InFlight h.register) masks
first_target slice x h s masks absent b = record {
  line = b.line ∙ no_line s masks absent;
  fetched = any_push (λ (g : Held Asked). g.block) slice.regs2 h h.block
      ∙ ap (λ c. cond c true (holds slice.regs2 h.block)) (itself h.block);
  primary = λ e. holds_in-own slice.regs2 h;
}

-- one more target changes nothing of another second-level block, nor of one that is in flight
more_targets : (slice : Slice) (x k : ℕ) (h : Held Asked) (s : Second) (masks : Masks) →
    ((h.block == k) ≡ true → holds slice.regs2 k ≡ true) → SecondAgrees slice k s masks →
    SecondAgrees (missed slice x h) k s masks
more_targets slice x k h s masks if_same b = record {
  line = b.line;
  fetched = any_push (λ (g : Held Asked). g.block) slice.regs2 h k
      ∙ still (h.block == k) (holds slice.regs2 k) if_same ∙ b.fetched;
  primary = λ e. holds_in-more slice.regs2 h (second_register_of s) k (b.primary e);
}

module _ (x register : ℕ) (shape : Shape) (now : Local) (k : Known) (a : Agrees shape now k)
    (asks : is_asking (k.first x) ≡ true) where
  -- the block is in a level-two register
  abbrev fetched_now : First
  fetched_now = level1.InFlight (register_of (k.first x)) fetch.Missed

  missed_blocks : (h : Held Asked) (y : ℕ) →
      BlockAgrees (missed now.slice x h) y (update k.first x fetched_now y) (k.written y)
  missed_blocks h = at_each (λ y f. BlockAgrees (missed now.slice x h) y f (k.written y)) k.first x fetched_now
      (missed_here now.slice x h (k.first x) (k.written x) asks (a.blocks x))
      (λ y apart. missed_other now.slice x y h (k.first y) (k.written y) apart (a.blocks y))

  missed_regs : now.slice.regs2 ++ second_miss shape now.slice x register ∷ []
      ≡ k.regs2 ++ known_second_miss shape k x register ∷ []
  missed_regs = ap₂ (λ (hs : List (Held Asked)) (n : ℕ). hs ++ held_of n ∷ []) a.regs2 ((a.blocks x).asker asks)
    where
      held_of : ℕ → Held Asked
      held_of n = record { register = register; block = second_of shape x; target = (x, n) }

  missed_fetching : AllByRecursion (IsFetched shape (update k.first x fetched_now))
      (k.regs2 ++ known_second_miss shape k x register ∷ [])
  missed_fetching = push_all (IsFetched shape (update k.first x fetched_now)) k.regs2
      (known_second_miss shape k x register)
      (fetching_kept shape k.first x fetched_now k.regs2 (asking_not_missed (k.first x) asks) a.fetching)
      (update_same k.first x fetched_now, refl)

-- So does a miss that takes a register,
pub after_second_primary : (x register : ℕ) → GoesOnAlike (SecondPrimary x register)
after_second_primary x register shape now k log stands a none = record {
  queue = a.queue;
  ready = a.ready;
  memory = a.memory;
  waiting = a.waiting;
  regs2 = missed_regs x register shape now k a h.0;
  blocks = missed_blocks x register shape now k a h.0 target;
  seconds = at_each (λ s f. SecondAgrees (missed now.slice x target) s f (masks_of shape k s)) k.second target.block
      (level2.InFlight register)
      (first_target now.slice x target (k.second target.block) (masks_of shape k target.block)
      (is_not _ h.1.0) (a.seconds target.block))
      (λ s apart. more_targets now.slice x s target (k.second s) (masks_of shape k s)
      (λ same. absurd (both_ways _ apart same)) (a.seconds s));
  fetching = missed_fetching x register shape now k a h.0;
  counts1 = a.counts1;
  counts2 = a.counts2;
  sorted1 = a.sorted1;
  sorted2 = a.sorted2;
}
  where
    h : BankHolds (known_rules shape k log (SecondPrimary x register))
    h = bank_holds (known_rules shape k log (SecondPrimary x register)) none

    target : Held Asked
    target = second_miss shape now.slice x register

-- and one that joins it.
pub after_second_merge : (x register : ℕ) → GoesOnAlike (SecondMerge x register)
after_second_merge x register shape now k log stands a none = record {
  queue = a.queue;
  ready = a.ready;
  memory = a.memory;
  waiting = a.waiting;
  regs2 = missed_regs x register shape now k a h.0;
  blocks = missed_blocks x register shape now k a h.0 target;
  seconds = λ s. more_targets now.slice x s target (k.second s) (masks_of shape k s) (holding s) (a.seconds s);
  fetching = missed_fetching x register shape now k a h.0;
  counts1 = a.counts1;
  counts2 = a.counts2;
  sorted1 = a.sorted1;
  sorted2 = a.sorted2;
}
  where
    h : BankHolds (known_rules shape k log (SecondMerge x register))
    h = bank_holds (known_rules shape k log (SecondMerge x register)) none

    target : Held Asked
    target = second_miss shape now.slice x register

    holding : (s : ℕ) → (target.block == s) ≡ true → holds now.slice.regs2 s ≡ true
    holding s same = ap (holds now.slice.regs2) (sym (eqb-true target.block s same))
        ∙ ap (λ (hs : List (Held Asked)). holds hs target.block) a.regs2 ∙ h.1.1.0
