use Rattle.std.proofs.Common.{sym, subst, arith}
use Rattle.lf_rules.specs.Lists.{lists_of}
use Rattle.lf_verdict.specs.inner.Ending.{IsEnding}
use Rattle.lf_verdict.proofs.Numbering.{orders_more, whole_more, first_fault}
use Rattle.lf_verdict.proofs.pool.numbers.number_banks.Goals as goal

pub returns-in-Err-clause-fault : goal.returns-in-Err-clause-fault
returns-in-Err-clause-fault c memory =
    subst (IsEnding c.args.shape.now memory (lists_of c.args.logs.now)) (sym c.number_ending.ensures)
    (first_fault c.args.shape.now (lists_of c.args.logs.now) c.loop-bank.bank c.in-Err.fault c.loop-bank-test.true
    c.loop-bank.invariant.1 c.in-Err.ensures.fault memory)

pub loop-bank-preserved : goal.loop-bank-preserved
loop-bank-preserved c =
    let logs = lists_of c.args.logs.now in
    let bank = c.loop-bank.bank in (
      orders_more logs bank c.loop-bank.all c.push.new.self c.in-Ok.places c.in_ok-push-in-Ok.ensures.items
          c.loop-bank.invariant.0 c.in-Ok.ensures.order,
      whole_more logs bank c.loop-bank.invariant.1 c.in-Ok.ensures.whole,
    )

pub returns-clause-whole : goal.returns-clause-whole
returns-clause-whole c bank lt = c.loop-bank.invariant.1 bank (omega arith)
