use Rattle.std.proofs.Common.{◌≡◌, ℕ, List, length}
use Rattle.lf_verdict.specs.declared.session.intake.Judging.TheVariants.{Waiting}
use Rattle.lf_verdict.specs.inner.Fed.{HasTaken}
use Rattle.lf_verdict.proofs.session.intake.Intake.take_memory.Given as goal

abbrev pub invariant-loop-item : goal.invariant-loop-item
invariant-loop-item l = record {
  shape : l.self.shape ≡ l.fn.self.shape;
  stop : l.self.stop ≡ l.fn.self.stop;
  waiting : l.self.judging ≡ Waiting;
  asked : l.self.asked ≡ l.fn.self.asked;
  taken : (bytes : List ℕ) → HasTaken l.fn.self bytes → HasTaken l.self bytes;
}

abbrev pub decreases-loop-item : goal.decreases-loop-item
decreases-loop-item l = length l.self.reader.memory
