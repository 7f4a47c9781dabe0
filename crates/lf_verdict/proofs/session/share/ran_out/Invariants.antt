use Rattle.std.proofs.Common.{◌≡◌, ◌<◌, ℕ, get_or}
use Rattle.lf_rules.specs.declared.outcome.Outcome.TheVariants as outcomes
use Rattle.lf_verdict.specs.declared.session.standing.bank_judge.BankJudge.{BankJudge}
use Rattle.lf_verdict.proofs.session.share.ran_out.Given as goal

abbrev pub invariant-loop-judge : goal.invariant-loop-judge
invariant-loop-judge l = (bank : ℕ) (d : BankJudge) → bank < l.judge-index →
    (get_or l.banks bank d).outcome ≡ outcomes.NoMemory → ⊥
