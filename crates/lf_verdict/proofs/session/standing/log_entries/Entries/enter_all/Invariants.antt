use Rattle.std.proofs.Common.{◌≡◌, ◌++◌, List, take}
use Rattle.lf_rules.specs.declared.shape.Shape.{Shape}
use Rattle.lf_rules.specs.declared.event.Record.{Record}
use Rattle.lf_verdict.specs.inner.Coming.{MayAllCome}
use Rattle.lf_verdict.specs.Standing.{AreEntered}
use Rattle.lf_verdict.proofs.session.standing.log_entries.Entries.enter_all.Given as goal

abbrev pub invariant-loop-at : goal.invariant-loop-at
invariant-loop-at l = record {
  entered : (shape : Shape) (before : List Record) → MayAllCome shape before l.records.records →
      AreEntered shape before l.fn.self → AreEntered shape (before ++ take l.at l.records.records) l.self;
  keeps : l.self.keeps ≡ l.fn.self.keeps;
}
