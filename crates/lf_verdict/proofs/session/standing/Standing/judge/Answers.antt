use Rattle.std.proofs.Common.{◌≡◌, ◌<◌, ◌≤◌, refl, ◌∙◌, arith}
use Rattle.lf_rules.specs.Run.{of_bank}
use Rattle.lf_rules.specs.Order.{log_at}
use Rattle.lf_replay.specs.Bytes.{bank_part}
use Rattle.lf_replay.proofs.Runs.{on_ok}
use Rattle.lf_verdict.proofs.Standings.{bank_before, counts_set, stands_beside, stands_more}
use Rattle.lf_verdict.proofs.session.standing.Standing.judge.Goals as goal

pub take-requires-clause-can : goal.take-requires-clause-can
take-requires-clause-can c =
    let r = c.requires.next in
    let may = r.may in
    let stands = r.stands in
    let item = c.args.item.now in
    let i = c.from-bank.result in
    let v = c.index_mut.result.now in
    let within : item.bank < r.shape.banks = omega (
      arith,
      c.bank.ensures,
      c.from-bank.ensures,
      c.len.ensures,
      stands.count_banks,
      c.if-bank-len.false,
    ) in
    record {
      shape = r.shape;
      memory = bank_part r.shape item.bank r.memory;
      bank = item.bank;
      came = of_bank item.bank r.records;
      gave = log_at stands.given item.bank;
      fits = may.fits;
      named = refl;
      settled = bank_before r.shape r.memory r.records c.args.self.now stands item may i v
          (c.from-bank.ensures ∙ c.bank.ensures)
          c.index_mut.ensures.value within;
    }

pub returns-clause-judged : goal.returns-clause-judged
returns-clause-judged c shape memory records may stands =
    let item = c.args.item.now in
    let i = c.from-bank.result in
    let v = c.index_mut.result.now in
    let at : i ≡ item.bank = c.from-bank.ensures ∙ c.bank.ensures in
    let entered = c.in_ok-enter.ensures.entered shape records may stands.entered in
    let within : item.bank < shape.banks = omega (
      arith,
      c.bank.ensures,
      c.from-bank.ensures,
      c.len.ensures,
      stands.count_banks,
      c.if-bank-len.false,
    ) in
    on_ok c.take.result
    (stands_more shape memory records c.args.self.now stands item may c.enter.new.self _ i c.take.new.self entered
    within refl at)
    (c.take.ensures.takes shape (bank_part shape item.bank memory) item.bank (of_bank item.bank records)
    (log_at stands.given item.bank) may.fits refl
    (bank_before shape memory records c.args.self.now stands item may i v at
    c.index_mut.ensures.value within))

pub returns-then-bank-len-clause-judged : goal.returns-then-bank-len-clause-judged
returns-then-bank-len-clause-judged c shape memory records may stands =
    let item = c.args.item.now in
    let past : shape.banks ≤ item.bank = omega (
      arith,
      c.bank.ensures,
      c.from-bank.ensures,
      c.len.ensures,
      stands.count_banks,
      c.if-bank-len.true,
    ) in
    stands_beside shape memory records c.args.self.now stands item may _
    (c.in_ok-enter.ensures.entered shape records may stands.entered) past refl

pub returns-clause-counts : goal.returns-clause-counts
returns-clause-counts c counts bank d lt =
    counts_set c.args.self.now.banks.items c.from-bank.result c.index_mut.result.now c.take.new.self
    c.index_mut.ensures.value c.take.ensures.counts counts bank d lt
