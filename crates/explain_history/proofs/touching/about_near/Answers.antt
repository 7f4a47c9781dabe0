use Rattle.std.proofs.Common.{◌≡◌, ℕ, ◌+◌, List, [], ◌++◌, Option, Some, None, get_or, take, sym, ap, ◌∙◌, subst}
use Rattle.std.proofs.Common.{arith, append-nil}
use Rattle.std.specs.Prelude.{slice_get}
use Rattle.std.proofs.lemmas.List.{take_all}
use Rattle.lf_rules.specs.declared.event.Record.{Record}
use Rattle.explain_history.specs.Asked.{IsLatest}
use Rattle.explain_history.specs.History.{about}
use Rattle.explain_history.specs.Near.{EndsWith, kept}
use Rattle.explain_history.specs.Touching.{all_before, record_at, touches}
use Rattle.explain_history.proofs.NearLemmas.{told, told_none, before_none, before_some, ends_same, ends_some}
use Rattle.explain_history.proofs.touching.about_near.Goals as goal

pub loop-at-init : goal.loop-at-init
loop-at-init c = record {
  latest = c.in_ok-requests.ensures c.args.shape.now;
  ends = λ far. record {
    front = told c.args.shape.now c.args.records.now.records c.args.wanted far c.args.near.now 0;
    joined =
        let said = told c.args.shape.now c.args.records.now.records c.args.wanted far c.args.near.now 0 in
        sym (ap (λ (ps : List ℕ). said ++ ps) c.new-found.ensures.items ∙ append-nil said);
  };
}

pub loop-at-preserved-in_default : goal.loop-at-preserved-in_default
loop-at-preserved-in_default c =
    let shape = c.args.shape.now in
    let rs = c.args.records.now.records in
    let near = c.args.near.now in
    let i = c.loop-at.at-index in
    let none : record_at rs (get_or near i None) ≡ None = ap (record_at rs) c.in_default.is in
    record {
      latest = subst (λ (bs : List Record). IsLatest shape bs c.loop-at.requests)
          (sym (before_none rs near i c.loop-at-test.true none)) c.loop-at.invariant.latest;
      ends = λ far. ends_same _ _ _ (told_none shape rs c.args.wanted far near i c.loop-at-test.true none)
          (c.loop-at.invariant.ends far);
    }

pub loop-at-preserved-in_default-record_at : goal.loop-at-preserved-in_default-record_at
loop-at-preserved-in_default-record_at c =
    let shape = c.args.shape.now in
    let rs = c.args.records.now.records in
    let near = c.args.near.now in
    let i = c.loop-at.at-index in
    let none : record_at rs (get_or near i None) ≡ None =
    ap (record_at rs) c.in-Some.is ∙ c.in_default-record_at.ensures in
    record {
      latest = subst (λ (bs : List Record). IsLatest shape bs c.loop-at.requests)
          (sym (before_none rs near i c.loop-at-test.true none)) c.loop-at.invariant.latest;
      ends = λ far. ends_same _ _ _ (told_none shape rs c.args.wanted far near i c.loop-at-test.true none)
          (c.loop-at.invariant.ends far);
    }

pub loop-at-preserved : goal.loop-at-preserved
loop-at-preserved c =
    let shape = c.args.shape.now in
    let rs = c.args.records.now.records in
    let near = c.args.near.now in
    let wanted = c.args.wanted in
    let i = c.loop-at.at-index in
    let place = c.in-Some.place in
    let r = c.in-Some-record_at.item.now in
    let found = c.loop-at.found.items in
    let before = all_before [] rs (take i near) in
    let lt = c.loop-at-test.true in
    let is = c.in-Some.is in
    let here : slice_get rs place ≡ Some r = c.in-Some-record_at.ensures in
    let kept_is = c.in_ok-keep.ensures
    ∙ ap (λ (second : Option ℕ). kept wanted place second found)
    (c.touched.ensures before c.loop-at.invariant.latest) in
    record {
      latest = subst (λ (bs : List Record). IsLatest shape bs c.note.new.self)
          (sym (before_some rs near i place r lt is here)) (c.note.ensures before c.loop-at.invariant.latest);
      ends = λ far. subst (λ (ps : List ℕ). EndsWith ps (told shape rs wanted far near (i + 1))) (sym kept_is)
          (ends_some shape rs wanted far near i place r found lt is here (c.loop-at.invariant.ends far));
    }

pub returns : goal.returns
returns c far =
    let shape = c.args.shape.now in
    let rs = c.args.records.now.records in
    let near = c.args.near.now in
    let all = take_all c.loop-at.at-index near (omega (arith, c.loop-at-test.false)) in
    subst (λ (ps : List (Option ℕ)). EndsWith c.loop-at.found.items
    (about c.args.wanted (touches shape [] rs (far ++ ps)))) all (c.loop-at.invariant.ends far)
