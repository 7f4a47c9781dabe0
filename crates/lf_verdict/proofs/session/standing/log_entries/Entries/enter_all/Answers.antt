use Rattle.std.proofs.Common.{◌<◌, ◌++◌, List, take, length, refl, sym, ◌∙◌, subst, arith}
use Rattle.std.proofs.lemmas.List.{append-nil, take_all}
use Rattle.lf_rules.specs.declared.event.Record.{Record}
use Rattle.lf_verdict.specs.Standing.{AreEntered}
use Rattle.lf_verdict.proofs.Batches.{may_at, one_more, place_at}
use Rattle.lf_verdict.proofs.session.standing.log_entries.Entries.enter_all.Goals as goal

pub loop-at-init : goal.loop-at-init
loop-at-init c = record {
  entered = λ shape before all entered.
      subst (λ (rs : List Record). AreEntered shape rs c.args.self.now) (sym (append-nil before)) entered;
  keeps = refl;
}

pub enter_at-requires-clause-next : goal.enter_at-requires-clause-next
enter_at-requires-clause-next c =
    let r = c.requires in
    let rs = c.args.records.now.records in
    let k = c.loop-at.at in
    let lt : k < length rs = omega (arith, c.loop-at-test.true, c.len-at-end.ensures) in
    let here = place_at rs k lt in (
      here.0,
      (
        sym (here.1 _),
        record {
          shape = r.0;
          records = r.1.0 ++ take k rs;
          may = may_at r.0 r.1.0 rs k here.0 r.1.1.0 lt (sym (here.1 here.0));
          entered = c.loop-at.invariant.entered r.0 r.1.0 r.1.1.0 r.1.1.1;
        },
      ),
    )

pub loop-at-preserved : goal.loop-at-preserved
loop-at-preserved c =
    let rs = c.args.records.now.records in
    let k = c.loop-at.at in
    let lt : k < length rs = omega (arith, c.loop-at-test.true, c.len-at-end.ensures) in
    let here = place_at rs k lt in
    record {
      entered = λ shape before all entered.
          subst (λ (xs : List Record). AreEntered shape xs c.enter_at.new.self)
          (one_more before rs k here.0 lt (sym (here.1 here.0)))
          (c.in_ok-enter_at.ensures.entered shape (before ++ take k rs) here.0 (sym (here.1 _))
          (may_at shape before rs k here.0 all lt (sym (here.1 here.0)))
          (c.loop-at.invariant.entered shape before all entered));
      keeps = c.in_ok-enter_at.ensures.keeps ∙ c.loop-at.invariant.keeps;
    }

pub returns-clause-entered : goal.returns-clause-entered
returns-clause-entered c shape before all entered =
    subst (λ (xs : List Record). AreEntered shape (before ++ xs) c.loop-at.self)
    (take_all c.loop-at.at c.args.records.now.records (omega (arith, c.loop-at-test.false, c.len-at-end.ensures)))
    (c.loop-at.invariant.entered shape before all entered)
