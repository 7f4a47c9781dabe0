-- What is known at the opening is the state of the model there.
use Rattle.std.proofs.Common.{◌≡◌, ℕ, zero, suc, refl}
use Rattle.std.specs.Prelude.{replicate, slice_index}
use Rattle.lf_rules.specs.declared.shape.Shape.{Shape}
use Rattle.lf_rules.specs.Address.{FlatMemory}
use Rattle.lf_rules.specs.State.{opening, seen_by}
use Rattle.bank_events.specs.Agrees.{Agrees}
use Rattle.bank_events.specs.Apart.{EachStands}
use Rattle.bank_events.specs.BankView.{AreHeld}
use Rattle.bank_events.specs.Opening.{opening_known}
use Rattle.bank_events.proofs.AtBlock.{no_way}

pub opening_agrees : (shape : Shape) (memory : FlatMemory) →
    Agrees shape (seen_by 0 0 (opening memory)) (opening_known memory)
opening_agrees shape memory = record {
  queue = refl;
  ready = refl;
  memory = refl;
  waiting = refl;
  regs2 = refl;
  blocks = λ x. record {
    line = refl;
    asked = refl;
    supplied = refl;
    waits = refl;
    asker = λ e. no_way e;
    primary = λ e. no_way e;
    stores = λ e. no_way e;
    clean = refl;
  };
  seconds = λ x. record { line = refl; fetched = refl; primary = λ e. no_way e };
  fetching = tt;
  counts1 = λ x. refl;
  counts2 = λ x. refl;
  sorted1 = tt;
  sorted2 = tt;
}

pub opening_stands : (shape : Shape) (memory : FlatMemory) → EachStands shape (seen_by 0 0 (opening memory)).slice
opening_stands shape memory = record { blocks = λ x. refl; fetched = λ x. refl }

-- no block is in flight at the opening
pub opening_held : (shape : Shape) (memory : FlatMemory) → AreHeld shape (opening_known memory)
opening_held shape memory = record {
  waits = λ block. refl;
  primary = λ block e. no_way e;
  fetched = λ second. refl;
  second_primary = λ second e. no_way e;
  home = tt;
}

-- no set has a line
pub no_counts : (count set : ℕ) → slice_index (replicate count 0) set ≡ 0
no_counts zero zero = refl
no_counts zero (suc set) = refl
no_counts (suc count) zero = refl
no_counts (suc count) (suc set) = no_counts count set
