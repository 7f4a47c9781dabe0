-- What an event leaves as it was, and what a block is by what is told of it.
use Rattle.std.proofs.Common.{◌≡◌, ℕ, Bool, true, false, cond, ◌==◌, List, [], ◌∷◌, is_some, refl, sym, ap, ◌∙◌}
use Rattle.std.proofs.Common.{eqb-true}
use Rattle.std.specs.List.{AllByRecursion}
use Rattle.lf_rules.specs.declared.shape.Shape.{Shape}
use Rattle.lf_rules.specs.Address.{Masks}
use Rattle.lf_rules.specs.Lines.{line_at}
use Rattle.lf_rules.specs.Registers.{Held, holds, holds_in}
use Rattle.lf_rules.specs.State.{Asked, Slice, update}
use Rattle.lf_rules.specs.Table.{is_asked, asked_register, is_among, store_bytes, block_asked}
use Rattle.bank_cells.specs.declared.known.Fetch.TheVariants as fetch
use Rattle.bank_cells.specs.declared.known.First.{First}
use Rattle.bank_cells.specs.declared.known.First.TheVariants as level1
use Rattle.bank_cells.specs.declared.known.Second.{Second}
use Rattle.bank_cells.specs.declared.known.Second.TheVariants as level2
use Rattle.bank_events.specs.Known.{is_present, is_in_flight, is_missed, is_supplied, register_of}
use Rattle.bank_events.specs.Agrees.{BlockAgrees, IsFetched, line2_of}
use Rattle.bank_events.proofs.Holding.{no_way}

-- A slice that has of a block what another has, and maybe more registers that hold it, agrees with the same.
pub block_kept : (old new : Slice) (y : ℕ) (f : First) (written : ℕ)
    → line_at new.lines1 y ≡ line_at old.lines1 y → is_asked new.asked y ≡ is_asked old.asked y
    → (is_asked old.asked y ≡ true → asked_register new.asked y ≡ asked_register old.asked y)
    → is_among new.supplied y ≡ is_among old.supplied y → holds new.waiting y ≡ holds old.waiting y
    → ((register : ℕ) → holds_in old.waiting register y ≡ true → holds_in new.waiting register y ≡ true)
    → store_bytes new.waiting y ≡ store_bytes old.waiting y
    → BlockAgrees old y f written → BlockAgrees new y f written
block_kept old new y f written line asked asker supplied waits held stores was = record {
  line = line ∙ was.line;
  asked = asked ∙ was.asked;
  supplied = supplied ∙ was.supplied;
  waits = waits ∙ was.waits;
  asker = λ e. asker (was.asked ∙ e) ∙ was.asker e;
  primary = λ e. held (register_of f) (was.primary e);
  stores = λ e. stores ∙ was.stores e;
  clean = was.clean;
}

-- a block that is neither in flight nor present
pub absent_is : (f : First) → is_present f ≡ false → is_in_flight f ≡ false → f ≡ level1.Absent
absent_is level1.Absent present flies = refl
absent_is (level1.InFlight register how) present flies = no_way (sym flies)
absent_is level1.Present present flies = no_way (sym present)

-- a block that level two does not fetch may change
pub fetching_kept : (shape : Shape) (f : ℕ → First) (x : ℕ) (new : First) (held : List (Held Asked))
    → is_missed (f x) ≡ false → AllByRecursion (IsFetched shape f) held
    → AllByRecursion (IsFetched shape (update f x new)) held
fetching_kept shape f x new [] other all = tt
fetching_kept shape f x new (h ∷ held) other all =
    ((at (x == block_asked h) refl, all.0.1), fetching_kept shape f x new held other all.1)
  where
    at : (b : Bool) → (x == block_asked h) ≡ b
        → cond b new (f (block_asked h)) ≡ level1.InFlight h.target.1 fetch.Missed
    at true e = no_way (sym other ∙ ap (λ n. is_missed (f n)) (eqb-true x (block_asked h) e) ∙ ap is_missed all.0.0)
    at false e = all.0.0

-- a block that is supplied, and one that is present
pub supplied_is : (f : First) → is_supplied f ≡ true → f ≡ level1.InFlight (register_of f) fetch.Supplied
supplied_is level1.Absent e = no_way e
supplied_is level1.Present e = no_way e
supplied_is (level1.InFlight register fetch.Asked) e = no_way e
supplied_is (level1.InFlight register fetch.Missed) e = no_way e
supplied_is (level1.InFlight register fetch.Supplied) e = refl

pub present_is : (f : First) → is_present f ≡ true → f ≡ level1.Present
present_is level1.Absent e = no_way e
present_is level1.Present e = refl
present_is (level1.InFlight register how) e = no_way e

-- a second-level block of which level two has a line
pub second_present_is : (s : Second) (masks : Masks) → is_some (line2_of s masks) ≡ true → s ≡ level2.Present
second_present_is level2.Absent masks e = no_way e
second_present_is level2.Present masks e = refl
second_present_is (level2.InFlight register) masks e = no_way e
