use Rattle.std.proofs.Common.{Bool, is_some, length, refl, sym, ap, ◌∙◌, ◌||◌, arith}
use Rattle.std.specs.Prelude.{IsSome}
use Rattle.trace_early.specs.Table.{numbered_as}
use Rattle.lf_logs.specs.EarlyRecords.{EarlyRecords, kept_at, kept_whole}
use Rattle.lf_logs.proofs.EarlyLookups.{at_rest, at_same, without_one, is_some_parts, length_parts, length_whole}
use Rattle.lf_logs.proofs.EarlyLookups.{first_of, none_from}
use Rattle.lf_logs.proofs.early.Early.drop.Goals as goal
use Rattle.lf_logs.proofs.early.Early.drop.Goals.{then-not-drop_whole-via-then-not-drop_whole}
use Rattle.lf_logs.proofs.early.Early.drop.Goals.{then-not-drop_whole-via-else-not-drop_whole+then-contains}

pub invariant_of-self-then-not-drop_whole : goal.invariant_of-self-then-not-drop_whole
invariant_of-self-then-not-drop_whole c =
    without_one c.self.inside.layout c.self.inside.spelled c.drop.new.self c.args.number c.self.invariant
    c.drop.ensures.gone c.drop.ensures.others

pub returns-then-not-drop_whole-clause-gone : goal.returns-then-not-drop_whole-clause-gone
returns-then-not-drop_whole-clause-gone c =
    at_rest c.self.inside.layout c.drop.new.self (kept_whole c.drop_whole.new.whole.entries) c.args.number
    c.drop.ensures.gone ∙ c.drop_whole.ensures.gone

pub returns-then-not-drop_whole-clause-others : goal.returns-then-not-drop_whole-clause-others
returns-then-not-drop_whole-clause-others c k other =
    let e = c.self.inside in
    at_same e.layout e.spelled c.drop.new.self (kept_whole e.whole.entries)
    (kept_whole c.drop_whole.new.whole.entries) k (c.drop.ensures.others k other)
    (c.drop_whole.ensures.others k other)
    ∙ ap (λ (e : EarlyRecords). kept_at e k) c.self.view_is

pub returns-then-not-drop_whole-clause-fewer : goal.returns-then-not-drop_whole-clause-fewer
returns-then-not-drop_whole-clause-fewer c some =
    let e = c.self.inside in
    let n = c.args.number in
    let there : IsSome (numbered_as n e.spelled) = elim c.then-not-drop_whole.branch [
      | then-not-drop_whole-via-then-not-drop_whole w ↦ first_of (is_some (numbered_as n e.spelled))
          (ap (λ (b : Bool). is_some (numbered_as n e.spelled) || b)
          (sym w.if-not-drop_whole.true ∙ c.drop_whole.ensures.was)
          ∙ sym (is_some_parts e.layout e.spelled (kept_whole e.whole.entries) n c.self.invariant)
          ∙ ap (λ (e : EarlyRecords). is_some (kept_at e n)) c.self.view_is ∙ some)
      | then-not-drop_whole-via-else-not-drop_whole+then-contains w ↦
          sym w.contains.ensures ∙ w.if-contains.true
    ] in
    omega (
      arith,
      c.drop.ensures.fewer there,
      c.drop_whole.ensures.fewer,
      length_parts e.layout e.spelled (kept_whole e.whole.entries) c.self.invariant,
      length_parts e.layout c.drop.new.self (kept_whole c.drop_whole.new.whole.entries)
          (invariant_of-self-then-not-drop_whole c),
      length_whole e.whole.entries,
      length_whole c.drop_whole.new.whole.entries,
      ap (λ (e : EarlyRecords). length e.records) c.self.view_is,
    )

pub returns-else-contains-clause-gone : goal.returns-else-contains-clause-gone
returns-else-contains-clause-gone c =
    at_rest c.self.inside.layout c.self.inside.spelled (kept_whole c.drop_whole.new.whole.entries) c.args.number
    (none_from (numbered_as c.args.number c.self.inside.spelled) (sym c.contains.ensures ∙ c.if-contains.false))
    ∙ c.drop_whole.ensures.gone

pub returns-else-contains-clause-others : goal.returns-else-contains-clause-others
returns-else-contains-clause-others c k other =
    let e = c.self.inside in
    at_same e.layout e.spelled e.spelled (kept_whole e.whole.entries)
    (kept_whole c.drop_whole.new.whole.entries) k refl (c.drop_whole.ensures.others k other)
    ∙ ap (λ (e : EarlyRecords). kept_at e k) c.self.view_is
