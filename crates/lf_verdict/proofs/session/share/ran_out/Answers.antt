use Rattle.std.proofs.Common.{◌≡◌, ℕ, get_or, ap, sym, ◌∙◌, ⊎_elim, arith}
use Rattle.std.proofs.lemmas.Bool.{cases_eq}
use Rattle.lf_verdict.specs.declared.session.standing.bank_judge.BankJudge.{BankJudge}
use Rattle.lf_verdict.proofs.Batches.{place_at}
use Rattle.lf_verdict.proofs.session.share.ran_out.Goals as goal

pub loop-judge-preserved : goal.loop-judge-preserved
loop-judge-preserved c bank d lt =
    let banks = c.args.banks.now in
    let k = c.loop-judge.judge-index in
    let x = c.judge-item.result in
    let at = place_at banks k c.loop-judge-test.true in
    ⊎_elim
    (λ (this : bank ≡ k).
    λ e. c.in_default.not-NoMemory (ap (λ (j : BankJudge). j.outcome)
    (c.judge-item.is ∙ at.1 x ∙ sym (at.1 d) ∙ ap (λ (i : ℕ). get_or banks i d) (sym this)) ∙ e))
    (λ (other : bank ≡ k → ⊥). c.loop-judge.invariant bank d (omega arith))
    (cases_eq bank k)

pub returns : goal.returns
returns c fine bank d lt = c.loop-judge.invariant bank d (omega (arith, c.loop-judge-test.false))
