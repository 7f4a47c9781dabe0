-- What is known agrees with a state: then its registers hold what its blocks tell.
use Rattle.std.proofs.Common.{ℕ, List, [], ◌∷◌, ◌∙◌, sym, ap}
use Rattle.std.specs.List.{AllByRecursion}
use Rattle.lf_rules.specs.declared.shape.Shape.{Shape}
use Rattle.lf_rules.specs.Registers.{Held, holds, holds_in}
use Rattle.lf_rules.specs.State.{Asked, Local, Missed}
use Rattle.bank_cells.specs.declared.known.First.{First}
use Rattle.bank_events.specs.Agrees.{Agrees, IsFetched}
use Rattle.bank_events.specs.Apart.{AreHome}
use Rattle.bank_events.specs.BankView.{AreHeld}
use Rattle.bank_events.specs.Known.{Known, register_of, second_register_of}

fetched_home : (shape : Shape) (f : ℕ → First) (held : List (Held Asked)) → AllByRecursion (IsFetched shape f) held →
    AreHome shape held
fetched_home shape f [] all = tt
fetched_home shape f (h ∷ held) all = (all.0.1, fetched_home shape f held all.1)

pub agrees_held : (shape : Shape) (now : Local) (k : Known) → Agrees shape now k → AreHeld shape k
agrees_held shape now k a = record {
  waits = λ block. ap (λ (held : List (Held Missed)). holds held block) (sym a.waiting) ∙ (a.blocks block).waits;
  primary = λ block flies. ap (λ (held : List (Held Missed)). holds_in held (register_of (k.first block)) block)
      (sym a.waiting) ∙ (a.blocks block).primary flies;
  fetched = λ second. ap (λ (held : List (Held Asked)). holds held second) (sym a.regs2)
      ∙ (a.seconds second).fetched;
  second_primary = λ second flies.
      ap (λ (held : List (Held Asked)). holds_in held (second_register_of (k.second second)) second) (sym a.regs2)
      ∙ (a.seconds second).primary flies;
  home = fetched_home shape k.first k.regs2 a.fetching;
}
