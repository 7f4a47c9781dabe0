use Rattle.std.proofs.Common.{◌≡◌, ℕ, List, [], ◌++◌, Option, Some, None, get_or, take, sym, ap, ◌∙◌, subst, arith}
use Rattle.std.specs.Prelude.{slice_get}
use Rattle.std.proofs.lemmas.List.{take_all}
use Rattle.lf_rules.specs.declared.event.Record.{Record}
use Rattle.explain_history.specs.Asked.{IsLatest}
use Rattle.explain_history.specs.History.{about}
use Rattle.explain_history.specs.Near.{about_one}
use Rattle.explain_history.specs.Touching.{all_before, record_at, touched, touches}
use Rattle.explain_history.proofs.NearLemmas.{told_none, told_some, before_none, before_some}
use Rattle.explain_history.proofs.touching.about.Goals as goal

pub loop-at-init : goal.loop-at-init
loop-at-init c = record {
  latest = c.in_ok-requests.ensures c.args.shape.now;
  found = c.new-found.ensures.items;
}

pub loop-at-preserved-in_default : goal.loop-at-preserved-in_default
loop-at-preserved-in_default c =
    let shape = c.args.shape.now in
    let rs = c.args.records.now.records in
    let places = c.args.places.now in
    let i = c.loop-at.at-index in
    let none : record_at rs (get_or places i None) ≡ None = ap (record_at rs) c.in_default.is in
    record {
      latest = subst (λ (bs : List Record). IsLatest shape bs c.loop-at.requests)
          (sym (before_none rs places i c.loop-at-test.true none)) c.loop-at.invariant.latest;
      found = c.loop-at.invariant.found
          ∙ sym (told_none shape rs c.args.wanted [] places i c.loop-at-test.true none);
    }

pub loop-at-preserved-in_default-record_at : goal.loop-at-preserved-in_default-record_at
loop-at-preserved-in_default-record_at c =
    let shape = c.args.shape.now in
    let rs = c.args.records.now.records in
    let places = c.args.places.now in
    let i = c.loop-at.at-index in
    let none : record_at rs (get_or places i None) ≡ None =
    ap (record_at rs) c.in-Some.is ∙ c.in_default-record_at.ensures in
    record {
      latest = subst (λ (bs : List Record). IsLatest shape bs c.loop-at.requests)
          (sym (before_none rs places i c.loop-at-test.true none)) c.loop-at.invariant.latest;
      found = c.loop-at.invariant.found
          ∙ sym (told_none shape rs c.args.wanted [] places i c.loop-at-test.true none);
    }

pub loop-at-preserved : goal.loop-at-preserved
loop-at-preserved c =
    let shape = c.args.shape.now in
    let rs = c.args.records.now.records in
    let places = c.args.places.now in
    let wanted = c.args.wanted in
    let i = c.loop-at.at-index in
    let place = c.in-Some.place in
    let r = c.in-Some-record_at.item.now in
    let before = all_before [] rs (take i places) in
    let lt = c.loop-at-test.true in
    let is = c.in-Some.is in
    let here : slice_get rs place ≡ Some r = c.in-Some-record_at.ensures in
    record {
      latest = subst (λ (bs : List Record). IsLatest shape bs c.note.new.self)
          (sym (before_some rs places i place r lt is here)) (c.note.ensures before c.loop-at.invariant.latest);
      found =
          c.in_ok-put.ensures
          ∙ ap (λ (second : Option ℕ). c.loop-at.found.items ++ about_one wanted place second)
          (c.touched.ensures before c.loop-at.invariant.latest)
          ∙ ap (λ (ps : List ℕ). ps ++ about_one wanted place (touched shape before r.log r.event))
          c.loop-at.invariant.found
          ∙ sym (told_some shape rs wanted [] places i place r lt is here);
    }

pub returns : goal.returns
returns c =
    let shape = c.args.shape.now in
    let rs = c.args.records.now.records in
    let places = c.args.places.now in
    let all = take_all c.loop-at.at-index places (omega (arith, c.loop-at-test.false)) in
    c.loop-at.invariant.found
    ∙ ap (λ (ps : List (Option ℕ)). about c.args.wanted (touches shape [] rs ps)) all
