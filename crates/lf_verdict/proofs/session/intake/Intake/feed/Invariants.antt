use Rattle.std.proofs.Common.{◌≡◌, ◌≤◌, ◌-◌, ◌++◌, ℕ, List, length, take, None}
use Rattle.lf_verdict.specs.inner.Fed.{HasFed, IsAsAsked}
use Rattle.lf_verdict.specs.inner.Taking.{IsSettled}
use Rattle.lf_verdict.proofs.session.intake.Intake.feed.Given as goal

abbrev pub invariant-loop-at : goal.invariant-loop-at
invariant-loop-at l = record {
  within : l.at ≤ length l.piece;
  shape : l.self.shape ≡ l.fn.self.shape;
  asked : l.self.asked ≡ l.fn.self.asked;
  going : l.self.stop ≡ None;
  as_asked : IsAsAsked l.fn.self → IsAsAsked l.self;
  settled : IsSettled l.fn.self → IsSettled l.self;
  fed : (bytes : List ℕ) → HasFed l.fn.self bytes → HasFed l.self (bytes ++ take l.at l.piece);
}

abbrev pub decreases-loop-at : goal.decreases-loop-at
decreases-loop-at l = length l.piece - l.at
