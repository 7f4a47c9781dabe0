use Rattle.std.proofs.Common.{◌≡◌, sym, subst, ⊎_elim, arith}
use Rattle.std.proofs.lemmas.Bool.{cases_eq}
use Rattle.lf_verdict.specs.inner.Noting.{IsBankWhole}
use Rattle.lf_verdict.proofs.session.standing.Standing.bank_at_fault.Goals as goal

pub loop-bank-preserved : goal.loop-bank-preserved
loop-bank-preserved c shape memory records stands bank lt = ⊎_elim
    (λ (this : bank ≡ c.loop-bank.bank).
    subst (IsBankWhole shape memory records) (sym this) (c.in_default.ensures.none shape memory records stands))
    (λ (other : bank ≡ c.loop-bank.bank → ⊥). c.loop-bank.invariant shape memory records stands bank (omega arith))
    (cases_eq bank c.loop-bank.bank)

pub returns-clause-none : goal.returns-clause-none
returns-clause-none c shape memory records stands bank lt =
    c.loop-bank.invariant shape memory records stands bank (omega
    (arith, c.loop-bank-test.false, c.len-bank-end.ensures, stands.count_banks, lt))

pub returns-in-Some-clause-lowest : goal.returns-in-Some-clause-lowest
returns-in-Some-clause-lowest c shape memory records stands = record {
  bank = c.loop-bank.bank;
  of_bank = c.in-Some.ensures.first shape memory records stands;
  below = c.loop-bank.invariant shape memory records stands;
}
