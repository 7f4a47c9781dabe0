use Rattle.std.proofs.Common.{get_or, ap, ◌∙◌, arith}
use Rattle.lf_verdict.proofs.Breaks.{bank_found, bank_whole_now, first_double}
use Rattle.lf_verdict.proofs.session.standing.Standing.bank_fault.Goals as goal

pub returns-in-Broken-clause-some : goal.returns-in-Broken-clause-some
returns-in-Broken-clause-some c shape memory records stands =
    let s = c.args.self.now in
    let judge = c.index-judge.result.now in
    bank_found shape memory records s stands c.args.bank judge
    (c.index-judge.ensures ∙ ap (λ n. get_or s.banks.items n judge) c.from-at.ensures)
    (omega (arith, c.from-at.ensures, c.len.ensures, stands.count_banks, c.if-at-len.false)) c.in-Broken.number
    c.in-Broken.rule c.in-Broken.is

pub returns-in-None : goal.returns-in-None
returns-in-None c = record {
  some = λ shape memory records stands. tt;
  none = λ shape memory records stands.
      let s = c.args.self.now in
      let judge = c.index-judge.result.now in
      bank_whole_now shape memory records s stands c.args.bank judge
      (c.index-judge.ensures ∙ ap (λ n. get_or s.banks.items n judge) c.from-at.ensures)
      (omega (arith, c.from-at.ensures, c.len.ensures, stands.count_banks, c.if-at-len.false)) c.double.result
      c.double.ensures c.in-None.is c.in_default.not-Broken;
  first = λ shape memory records stands. tt;
}

pub returns-in-Some-clause-first : goal.returns-in-Some-clause-first
returns-in-Some-clause-first c shape memory records stands =
    let s = c.args.self.now in
    let judge = c.index-judge.result.now in
    first_double shape memory records s stands c.args.bank judge
    (c.index-judge.ensures ∙ ap (λ n. get_or s.banks.items n judge) c.from-at.ensures)
    (omega (arith, c.from-at.ensures, c.len.ensures, stands.count_banks, c.if-at-len.false)) c.double.result
    c.in-Some.k c.double.ensures c.in-Some.is c.in_default.not-Broken
