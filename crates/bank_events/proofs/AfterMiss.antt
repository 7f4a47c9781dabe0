-- What is known after a miss of level one.
use Rattle.std.proofs.Common.{◌≡◌, ℕ, true, false, cond, ◌==◌, None, refl, sym, ap, ◌∙◌, subst, eq-eqb}
use Rattle.std.specs.Prelude.{bit_or}
use Rattle.lf_rules.specs.declared.shape.Shape.{Shape}
use Rattle.lf_rules.specs.declared.event.Event.TheVariants.{Primary, Merge}
use Rattle.lf_rules.specs.Registers.{Held, holds}
use Rattle.lf_rules.specs.State.{Request, Missed, Asked, Local}
use Rattle.lf_rules.specs.Table.{oldest, value_of, miss, store_mask, is_asked, asked_register}
use Rattle.bank_cells.specs.declared.known.Fetch.TheVariants as fetch
use Rattle.bank_cells.specs.declared.known.First.{First}
use Rattle.bank_cells.specs.declared.known.First.TheVariants as level1
use Rattle.bank_events.specs.Apart.{EachStands}
use Rattle.bank_events.specs.Known.{Known, is_in_flight, is_missed}
use Rattle.bank_events.specs.KnownRules.{known_rules, known_broken}
use Rattle.bank_events.specs.KnownAfter.{known_after}
use Rattle.bank_events.specs.Agrees.{Agrees, BlockAgrees, GoesOnAlike, after_event}
use Rattle.bank_events.proofs.Blocks.{any_push}
use Rattle.bank_events.proofs.Holding.{BankHolds, bank_holds, is_not, no_way}
use Rattle.bank_events.proofs.Kept.{block_kept, absent_is, fetching_kept}
use Rattle.bank_events.proofs.Shown.{shown, by_shown}
use Rattle.bank_events.proofs.Updates.{at_each, at_each2}
use Rattle.bank_events.proofs.Waiting.{holds_in-own, holds_in-more, stores-own, stores-other, stores-none}
use Rattle.bank_events.proofs.Waiting.{asked_register-push}

module _ (port tag register : ℕ) (shape : Shape) (now : Local) (k : Known) (log : ℕ)
    (each : EachStands shape now.slice) (a : Agrees shape now (shown now k)) where
  abbrev request : Request
  request = oldest (now.slice.queue port)

  abbrev x : ℕ
  x = request.block

  -- the target that waits
  abbrev target : Held Missed
  target = miss now.slice port register (value_of now.memory request)

  module _ (none : known_broken shape (shown now k) log (Primary port tag register) ≡ None) where
    -- the clauses of the event
    primary_facts : BankHolds (known_rules shape (shown now k) log (Primary port tag register))
    primary_facts = bank_holds (known_rules shape (shown now k) log (Primary port tag register)) none

    idle : holds now.slice.waiting x ≡ false
    idle = is_not (holds now.slice.waiting x) primary_facts.1.1.0

    absent : k.first x ≡ level1.Absent
    absent = absent_is (k.first x) (is_not _ primary_facts.1.0) (sym (a.blocks x).waits ∙ idle)

    was : BlockAgrees now.slice x level1.Absent (k.written x)
    was = subst (λ (f : First). BlockAgrees now.slice x f (k.written x)) absent (a.blocks x)

    -- the block is asked for, and its register holds it
    primary_own : BlockAgrees (after_event shape now log (Primary port tag register)).slice x
        (level1.InFlight register fetch.Asked) (bit_or (k.written x) (store_mask request))
    primary_own = record {
      line = was.line;
      asked = any_push (λ (q : Asked). q.0) now.slice.asked (x, register) x
          ∙ ap (λ b. cond b true (is_asked now.slice.asked x)) (eq-eqb x x refl);
      supplied = was.supplied;
      waits = any_push (λ (h : Held Missed). h.block) now.slice.waiting target x
          ∙ ap (λ b. cond b true (holds now.slice.waiting x)) (eq-eqb x x refl);
      asker = λ _. asked_register-push now.slice.asked x register x
          ∙ ap (λ b. cond b (asked_register now.slice.asked x) (cond (x == x) register 0)) was.asked
          ∙ ap (λ b. cond b register 0) (eq-eqb x x refl);
      primary = λ _. holds_in-own now.slice.waiting target;
      stores = λ _. stores-own now.slice.waiting target
          ∙ ap (λ mask. bit_or mask (store_mask request)) (stores-none now.slice.waiting x idle ∙ sym was.clean);
      clean = tt;
    }

    primary_other : (y : ℕ) → (x == y) ≡ false
        → BlockAgrees (after_event shape now log (Primary port tag register)).slice y (k.first y) (k.written y)
    primary_other y apart = block_kept now.slice (after_event shape now log (Primary port tag register)).slice y
        (k.first y) (k.written y) refl
        (any_push (λ (q : Asked). q.0) now.slice.asked (x, register) y
        ∙ ap (λ b. cond b true (is_asked now.slice.asked y)) apart)
        (λ there. asked_register-push now.slice.asked x register y
        ∙ ap (λ b. cond b (asked_register now.slice.asked y) (cond (x == y) register 0)) there)
        refl
        (any_push (λ (h : Held Missed). h.block) now.slice.waiting target y
        ∙ ap (λ b. cond b true (holds now.slice.waiting y)) apart)
        (λ r held. holds_in-more now.slice.waiting target r y held)
        (stores-other now.slice.waiting target y apart) (a.blocks y)

    primary_shown : Agrees shape (after_event shape now log (Primary port tag register))
        (known_after shape (shown now k) log (Primary port tag register))
    primary_shown = record {
      queue = refl;
      ready = refl;
      memory = refl;
      waiting = refl;
      regs2 = refl;
      blocks = at_each2 (BlockAgrees (after_event shape now log (Primary port tag register)).slice) k.first k.written x
          (level1.InFlight register fetch.Asked) (bit_or (k.written x) (store_mask request)) primary_own primary_other;
      seconds = λ second.
          let same = a.seconds second in
          record { line = same.line; fetched = same.fetched; primary = same.primary };
      fetching = fetching_kept shape k.first x (level1.InFlight register fetch.Asked) now.slice.regs2
          (ap is_missed absent) a.fetching;
      counts1 = a.counts1;
      counts2 = a.counts2;
      sorted1 = a.sorted1;
      sorted2 = a.sorted2;
    }

  module _ (none : known_broken shape (shown now k) log (Merge port tag register) ≡ None) where
    -- the clauses of the event
    merge_facts : BankHolds (known_rules shape (shown now k) log (Merge port tag register))
    merge_facts = bank_holds (known_rules shape (shown now k) log (Merge port tag register)) none

    -- one more target waits for the block
    merge_own : (f : First) → is_in_flight f ≡ true → BlockAgrees now.slice x f (k.written x)
        → BlockAgrees (after_event shape now log (Merge port tag register)).slice x f
        (bit_or (k.written x) (store_mask request))
    merge_own level1.Absent flies held = no_way flies
    merge_own level1.Present flies held = no_way flies
    merge_own (level1.InFlight r how) flies held = record {
      line = held.line;
      asked = held.asked;
      supplied = held.supplied;
      waits = any_push (λ (h : Held Missed). h.block) now.slice.waiting target x
          ∙ ap (λ b. cond b true (holds now.slice.waiting x)) (eq-eqb x x refl);
      asker = held.asker;
      primary = λ e. holds_in-more now.slice.waiting target r x (held.primary e);
      stores = λ e. stores-own now.slice.waiting target
          ∙ ap (λ mask. bit_or mask (store_mask request)) (held.stores e);
      clean = tt;
    }

    merge_other : (y : ℕ) → (x == y) ≡ false
        → BlockAgrees (after_event shape now log (Merge port tag register)).slice y (k.first y) (k.written y)
    merge_other y apart = block_kept now.slice (after_event shape now log (Merge port tag register)).slice y (k.first y)
        (k.written y) refl refl (λ there. refl) refl
        (any_push (λ (h : Held Missed). h.block) now.slice.waiting target y
        ∙ ap (λ b. cond b true (holds now.slice.waiting y)) apart)
        (λ r held. holds_in-more now.slice.waiting target r y held)
        (stores-other now.slice.waiting target y apart) (a.blocks y)

    merge_shown : Agrees shape (after_event shape now log (Merge port tag register))
        (known_after shape (shown now k) log (Merge port tag register))
    merge_shown = record {
      queue = refl;
      ready = refl;
      memory = refl;
      waiting = refl;
      regs2 = refl;
      blocks = at_each (λ y w. BlockAgrees (after_event shape now log (Merge port tag register)).slice y (k.first y) w)
          k.written x (bit_or (k.written x) (store_mask request))
          (merge_own (k.first x) (sym (a.blocks x).waits ∙ merge_facts.1.0) (a.blocks x)) merge_other;
      seconds = λ second.
          let same = a.seconds second in
          record { line = same.line; fetched = same.fetched; primary = same.primary };
      fetching = a.fetching;
      counts1 = a.counts1;
      counts2 = a.counts2;
      sorted1 = a.sorted1;
      sorted2 = a.sorted2;
    }

-- A primary miss goes on alike.
pub after_primary : (port tag register : ℕ) → GoesOnAlike (Primary port tag register)
after_primary port tag register = by_shown (Primary port tag register) (primary_shown port tag register)

-- So does a further miss.
pub after_merge : (port tag register : ℕ) → GoesOnAlike (Merge port tag register)
after_merge port tag register = by_shown (Merge port tag register) (merge_shown port tag register)
