use Rattle.std.proofs.Common.{List, length, get_or, sym, ap, ◌∙◌, subst, arith}
use Rattle.std.specs.Vec.{with_items}
use Rattle.std.specs.List.{length_refill}
use Rattle.lf_verdict.specs.declared.session.standing.bank_judge.BankJudge.{BankJudge}
use Rattle.lf_verdict.specs.inner.Shares.{kind_of, keeps_of, IsShareAt, CanTakeAll, TakesAll}
use Rattle.lf_verdict.proofs.Batches.{all_fit, can_take, banks_too, written_at}
use Rattle.lf_verdict.proofs.session.share.Share.take.Goals as goal

pub judge_banks-requires-clause-each : goal.judge_banks-requires-clause-each
judge_banks-requires-clause-each g c κs within bank d lt =
    let r = c.requires.can in
    let rs = c.args.records.now.records in
    let banks = c.in-Banks.banks.items in
    let slice = c.as_mut_slice.ensures.value in
    subst (λ (js : List BankJudge). CanTakeAll bank rs (get_or js bank d)) (sym slice)
    (can_take r.0 r.1.0 r.1.1.0 rs banks (subst (IsShareAt r.0 r.1.0 r.1.1.0) c.in-Banks.is r.1.1.1.1)
    (all_fit r.0 r.1.1.0 rs r.1.1.1.0) bank d (omega (arith, lt, ap length slice)))

pub returns-in-Banks : goal.returns-in-Banks
returns-in-Banks g c =
    let rs = c.args.records.now.records in
    let old = c.in-Banks.banks in
    let slice = c.as_mut_slice.ensures.value in
    let ws = c.judge_banks.new.banks in
    record {
      kind = sym (ap kind_of c.in-Banks.is);
      keeps = sym (ap keeps_of c.in-Banks.is);
      judged = λ shape memory before may at.
          banks_too shape memory before rs old.items (with_items old ws).items
          (subst (IsShareAt shape memory before) c.in-Banks.is at) (all_fit shape before rs may)
          (sym (length_refill old.len old.items ws old.ok.0) ∙ old.ok.0)
          (λ bank x lt is.
          subst (λ (y : BankJudge). TakesAll bank rs (get_or old.items bank x) y)
          (written_at old.items ws old.len bank x (omega (arith, lt, old.ok.0)) is)
          (subst (λ (js : List BankJudge). TakesAll bank rs (get_or js bank x) (get_or ws bank x)) slice
          (c.judge_banks.ensures.each bank x (omega (arith, lt, ap length slice)))));
    }
