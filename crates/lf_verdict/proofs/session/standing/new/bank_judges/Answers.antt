use Rattle.std.proofs.Common.{ℕ, []}
use Rattle.std.specs.Prelude.{IsSome, IsTrue}
use Rattle.lf_rules.specs.Address.{flat_memory}
use Rattle.lf_replay.specs.Bytes.{bank_part}
use Rattle.lf_verdict.specs.declared.session.standing.bank_judge.BankJudge.{BankJudge}
use Rattle.lf_verdict.specs.Standing.{IsBankSettled}
use Rattle.lf_verdict.proofs.Opened.{each_more}
use Rattle.lf_verdict.proofs.session.standing.new.bank_judges.Goals as goal

pub loop-bank-preserved : goal.loop-bank-preserved
loop-bank-preserved c =
    each_more (λ (bank : ℕ) (judge : BankJudge). IsBankSettled c.args.shape.now
    (bank_part c.args.shape.now bank (flat_memory c.args.memory.now.items)) bank [] [] judge
    × (IsTrue c.args.counted → IsSome judge.count))
    c.loop-bank.judges.items c.push.new.self.items c.loop-bank.bank c.in_ok-judge.judge c.loop-bank.invariant.0
    c.in_ok-push.ensures.items c.loop-bank.invariant.1 (c.in_ok-judge.ensures.settled, c.in_ok-judge.ensures.counts)
