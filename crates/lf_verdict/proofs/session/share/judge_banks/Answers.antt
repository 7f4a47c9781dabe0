use Rattle.std.proofs.Common.{get_or, subst}
use Rattle.lf_verdict.specs.declared.session.standing.bank_judge.BankJudge.{BankJudge}
use Rattle.lf_verdict.specs.inner.Shares.{TakesAll}
use Rattle.lf_verdict.proofs.session.share.judge_banks.Goals as goal

pub returns : goal.returns
returns g c = record {
  each = λ bank d lt.
      let at = (c.for_each_mut.ensures bank d lt).1 in
      subst (λ (x : BankJudge). TakesAll bank c.args.records.now.records x (get_or c.for_each_mut.new.s bank d))
      at.argument_is
      (subst (λ (y : BankJudge). TakesAll bank c.args.records.now.records at.argument.now y) at.left at.call);
}
