use Rattle.std.proofs.Common.{ℕ, List}
use Rattle.std.specs.Prelude.{IsSome}
use Rattle.lf_rules.specs.declared.shape.Shape.{Shape}
use Rattle.lf_rules.specs.declared.event.Record.{Record}
use Rattle.lf_rules.specs.Address.{FlatMemory}
use Rattle.lf_logs.specs.Reordering.{waiting_count}
use Rattle.lf_verdict.specs.Standing.{IsBankJudged}
use Rattle.lf_verdict.proofs.session.standing.bank_judge.BankJudge.settle_ready.Given as goal

abbrev pub invariant-loop-item : goal.invariant-loop-item
invariant-loop-item l = record {
  judged : (shape : Shape) (memory : FlatMemory) (bank : ℕ) (came : List Record) (gave : List Record) →
      IsBankJudged shape memory bank came gave l.fn.self
      → (more : List Record) × IsBankJudged shape memory bank came more l.self;
  counts : IsSome l.fn.self.count → IsSome l.self.count;
}

abbrev pub decreases-loop-item : goal.decreases-loop-item
decreases-loop-item l = waiting_count l.self.order
