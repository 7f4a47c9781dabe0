-- A bank before its first record.
use Rattle.std.specs.Prelude.{◌≡◌, []}
use Rattle.lf_rules.specs.declared.shape.Shape.{Shape}
use Rattle.lf_rules.specs.Address.{FlatMemory}
use Rattle.bank_cells.specs.declared.known.First.TheVariants as level1
use Rattle.bank_cells.specs.declared.known.Second.TheVariants as level2
use Rattle.bank_events.specs.BankView.{BankView, known_of, AreWaiting}
use Rattle.bank_events.specs.Known.{Known}

-- nothing but the memory is known
abbrev pub opening_known : FlatMemory → Known
opening_known memory = record {
  queue = λ _. [];
  ready = [];
  memory = memory;
  first = λ _. level1.Absent;
  written = λ _. 0;
  dirty = λ _. 0;
  second = λ _. level2.Absent;
  counts1 = λ _. 0;
  counts2 = λ _. 0;
  waiting = [];
  regs2 = [];
}

-- A bank of the shape has this memory and has taken no record: no request waits in its registers.
pub record IsNew (view : BankView) (shape : Shape) (memory : FlatMemory) : Type 0 where
  pub of_shape : view.shape ≡ shape
  pub waiting : AreWaiting view [] []
  pub known : known_of view [] [] ≡ opening_known memory
