use Rattle.std.proofs.Common.{◌≡◌, ◌<◌, ◌++◌, List, take, length, sym, ap, ◌∙◌, subst, arith}
use Rattle.std.proofs.lemmas.List.{append-nil, take_all}
use Rattle.lf_rules.specs.declared.event.Record.{Record}
use Rattle.lf_rules.specs.Fits.{Fits}
use Rattle.lf_rules.specs.Run.{of_bank}
use Rattle.lf_codec.specs.Lent.{IsSpelling}
use Rattle.lf_verdict.specs.Standing.{IsBankSettled}
use Rattle.lf_verdict.proofs.Batches.{all_at, own_more, other_more, place_at}
use Rattle.lf_verdict.proofs.session.standing.bank_judge.BankJudge.take_own.Goals as goal
use Rattle.lf_verdict.proofs.session.standing.bank_judge.BankJudge.take_own.Goals.{then-from-bank+in_ok-take}
use Rattle.lf_verdict.proofs.session.standing.bank_judge.BankJudge.take_own.Goals.{else-from-bank}

pub loop-at-init : goal.loop-at-init
loop-at-init c shape memory came gave fits settled = (
  gave,
  subst (λ (rs : List Record). IsBankSettled shape memory c.args.bank rs gave c.args.self.now)
      (sym (append-nil came)) settled,
)

pub take-requires-clause-can : goal.take-requires-clause-can
take-requires-clause-can c =
    let r = c.requires in
    let rs = c.args.records.now.records in
    let k = c.loop-at.at in
    let lt : k < length rs = omega (arith, c.loop-at-test.true, c.len-at-end.ensures) in
    let here = place_at rs k lt in
    let item = c.lend_view.new.place in
    let is : item ≡ here.0 = c.lend_view.ensures here.0 ∙ here.1 here.0 in
    let now = c.loop-at.invariant r.shape r.memory r.came r.gave r.fit r.settled in
    record {
      shape = r.shape;
      memory = r.memory;
      bank = c.args.bank;
      came = r.came ++ of_bank c.args.bank (take k rs);
      gave = now.0;
      fits = all_at (Fits r.shape) rs k item r.fit lt (c.lend_view.ensures item);
      named = ap (λ (x : Record). x.bank) is ∙ sym (ap (λ (x : Record). x.bank) (here.1 here.0))
          ∙ sym (c.bank.ensures here.0) ∙ sym c.from.ensures ∙ c.if-from-bank.true;
      settled = now.1;
    }

pub take-requires-clause-spelled : goal.take-requires-clause-spelled
take-requires-clause-spelled c =
    let item = c.lend_view.new.place in
    subst (IsSpelling c.spelling.result.now) (sym (c.lend_view.ensures item)) (c.spelling.ensures item)

pub loop-at-preserved : goal.loop-at-preserved
loop-at-preserved c shape memory came gave fits settled =
    let rs = c.args.records.now.records in
    let k = c.loop-at.at in
    let there : k < length rs = omega (arith, c.loop-at-test.true, c.len-at-end.ensures) in
    let here = place_at rs k there in
    let item = here.0 in
    let is : item ≡ _ = sym (here.1 item) in
    let bank = c.args.bank in
    let now = c.loop-at.invariant shape memory came gave fits settled in
    let asked = c.bank.ensures item ∙ ap (λ (x : Record). x.bank) (here.1 item) in
    elim c.if-from-bank.branch [
      | then-from-bank+in_ok-take w ↦
          let named : item.bank ≡ bank = sym asked ∙ sym c.from.ensures ∙ w.if-from-bank.true in
          let lent = w.lend_view.ensures item ∙ here.1 item in
          let before = came ++ of_bank bank (take k rs) in
          let took = rw lent at (w.in_ok-take.ensures.takes shape memory bank before now.0) in
          let after = took (all_at (Fits shape) rs k item fits there is) named now.1 in
          rw w.self-is (
            after.0,
            subst (λ (xs : List Record). IsBankSettled shape memory bank xs after.0
                w.take.new.self) (own_more bank came rs k item there is named) after.1,
          )
      | else-from-bank w ↦
          rw w.self-is (
            now.0,
            subst (λ (xs : List Record). IsBankSettled shape memory bank xs now.0 c.loop-at.self)
                (other_more bank came rs k item there is (λ e. w.if-from-bank.false (c.from.ensures ∙ asked ∙ e)))
                now.1,
          )
    ]

pub returns : goal.returns
returns c shape memory came gave fits settled =
    let now = c.loop-at.invariant shape memory came gave fits settled in (
      now.0,
      subst (λ (rs : List Record). IsBankSettled shape memory c.args.bank (came ++ of_bank c.args.bank rs) now.0
          c.loop-at.self)
          (take_all c.loop-at.at c.args.records.now.records
          (omega (arith, c.loop-at-test.false, c.len-at-end.ensures))) now.1,
    )
