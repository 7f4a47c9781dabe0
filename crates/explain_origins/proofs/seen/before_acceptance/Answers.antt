use Rattle.std.proofs.Common.{◌≡◌, ℕ, ◌-◌, false, Option, None, length, drop, sym, ap, ◌∙◌, subst, arith}
use Rattle.std.specs.List.{list_any}
use Rattle.std.proofs.lemmas.List.{drop_all}
use Rattle.explain_history.specs.Touching.{record_at}
use Rattle.explain_origins.specs.Seen.{accepts}
use Rattle.explain_origins.proofs.BeforeLast.{before_last_one, none_from, before_none}
use Rattle.explain_origins.proofs.seen.before_acceptance.Goals as goal

pub loop-end-init : goal.loop-end-init
loop-end-init c =
    let holds = λ (at : Option ℕ). accepts c.args.port c.args.tag (record_at c.args.records.now.records at) in
    record {
      inside = omega arith;
      none = ap (list_any holds) (drop_all (length c.args.before.now) c.args.before.now (omega arith));
    }

pub loop-end-preserved : goal.loop-end-preserved
loop-end-preserved c =
    let holds = λ (at : Option ℕ). accepts c.args.port c.args.tag (record_at c.args.records.now.records at) in
    let end = c.loop-end.end in
    record {
      inside = omega arith;
      none =
          none_from holds c.args.before.now None (end - 1) end (omega arith) (omega arith)
          (sym c.accepts.ensures ∙ c.if-accepts.false) c.loop-end.invariant.none;
    }

pub returns-then-accepts : goal.returns-then-accepts
returns-then-accepts c =
    let holds = λ (at : Option ℕ). accepts c.args.port c.args.tag (record_at c.args.records.now.records at) in
    let end = c.loop-end.end in
    sym (before_last_one holds c.args.before.now None (end - 1) end (omega arith) (omega arith)
    (sym c.accepts.ensures ∙ c.if-accepts.true) c.loop-end.invariant.none)

pub returns : goal.returns
returns c =
    let holds = λ (at : Option ℕ). accepts c.args.port c.args.tag (record_at c.args.records.now.records at) in
    let zero_is : c.loop-end.end ≡ 0 = omega arith in
    sym (before_none holds c.args.before.now
    (subst (λ (k : ℕ). list_any holds (drop k c.args.before.now) ≡ false) zero_is c.loop-end.invariant.none))
