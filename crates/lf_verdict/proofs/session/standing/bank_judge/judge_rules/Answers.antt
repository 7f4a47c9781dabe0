use Rattle.lf_verdict.proofs.Judges.{bank_kept}
use Rattle.std.proofs.Common.{refl}
use Rattle.lf_verdict.proofs.session.standing.bank_judge.judge_rules.Goals as goal

pub returns-in_default : goal.returns-in_default
returns-in_default c = record {
  bank = refl;
  shape = refl;
  judged = λ shape memory bank rs number at. bank_kept shape memory bank rs c.args.item.now c.args.step.now
      c.args.outcome.now c.in_default.not-Passed at;
}
