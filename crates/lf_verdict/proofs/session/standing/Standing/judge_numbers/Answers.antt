use Rattle.std.proofs.Common.{◌<◌, sym, subst, arith}
use Rattle.lf_rules.specs.Run.{of_bank}
use Rattle.lf_rules.specs.Order.{log_at}
use Rattle.lf_verdict.specs.inner.Ending.{IsEnding}
use Rattle.lf_verdict.specs.inner.Coming.{logs_so_far}
use Rattle.lf_verdict.proofs.Numbering.{first_fault, whole_more}
use Rattle.lf_verdict.proofs.Settled.{bank_read, bank_whole, bank_fault}
use Rattle.lf_verdict.proofs.session.standing.Standing.judge_numbers.Goals as goal

pub returns-in-Some-clause-fault : goal.returns-in-Some-clause-fault
returns-in-Some-clause-fault c shape memory records stands =
    let s = c.args.self.now in
    let bank = c.loop-bank.bank in
    let lt : bank < shape.banks = omega (
      arith,
      c.loop-bank-test.true,
      c.deref-judge-items.ensures.len,
      stands.count_banks,
    ) in
    let here = bank_read shape memory records s stands bank c.deref-judge-items.result.now c.judge-item.result
    c.deref-judge-items.ensures.value c.judge-item.is lt in
    subst (IsEnding shape memory (logs_so_far shape records)) (sym c.number_ending.ensures)
    (first_fault shape (logs_so_far shape records) bank c.in-Some.fault lt
    (c.loop-bank.invariant shape memory records stands)
    (bank_fault shape memory records s stands bank c.in-Some.fault
    (c.in-Some.ensures.fault (of_bank bank records) (log_at stands.given bank) here.bank_judged.ordered)) memory)

pub loop-bank-preserved : goal.loop-bank-preserved
loop-bank-preserved c shape memory records stands =
    let s = c.args.self.now in
    let bank = c.loop-bank.bank in
    let lt : bank < shape.banks = omega (
      arith,
      c.loop-bank-test.true,
      c.deref-judge-items.ensures.len,
      stands.count_banks,
    ) in
    let here = bank_read shape memory records s stands bank c.deref-judge-items.result.now c.judge-item.result
    c.deref-judge-items.ensures.value c.judge-item.is lt in
    whole_more (logs_so_far shape records) bank (c.loop-bank.invariant shape memory records stands)
    (bank_whole shape memory records s stands bank (c.in_default.ensures.whole (of_bank bank records)
    (log_at stands.given bank) here.bank_judged.ordered))

pub returns-clause-whole : goal.returns-clause-whole
returns-clause-whole c shape memory records stands bank lt =
    c.loop-bank.invariant shape memory records stands bank (omega
    (arith, c.loop-bank-test.false, c.deref-judge-items.ensures.len, stands.count_banks, lt))
