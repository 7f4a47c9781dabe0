use Rattle.std.proofs.Common.{length, sym}
use Rattle.lf_rules.proofs.CopyBlock.{none_is}
use Rattle.lf_logs.specs.Reordering.{first_with}
use Rattle.lf_verdict.proofs.session.standing.bank_judge.BankJudge.settle_waiting.Goals as goal

pub returns-then-not-has_next-clause-settles : goal.returns-then-not-has_next-clause-settles
returns-then-not-has_next-clause-settles c shape memory bank came gave judged = (
  gave,
  record {
    bank_judged = judged;
    drained = none_is (first_with (length gave) came) (sym (c.if-not-has_next.ensures came gave judged.ordered));
  },
)
