use Rattle.std.proofs.Common.{◌≡◌, None, Some, refl, ap, ◌∙◌, option_map}
use Rattle.std.specs.Global.{Box}
use Rattle.lf_rules.specs.declared.event.Record.{Record}
use Rattle.trace_early.specs.Table.{numbered_as}
use Rattle.lf_logs.specs.EarlyRecords.{EarlyRecords, kept_at, kept_whole}
use Rattle.lf_logs.proofs.EarlyLookups.{at_whole, whole_same, none_read, at_rest, at_same}
use Rattle.lf_logs.proofs.Reordered.{apart_at}
use Rattle.lf_logs.proofs.early.Early.put.Goals as goal

pub returns-clause-own : goal.returns-clause-own
returns-clause-own c =
    let e = c.self.inside in
    let n = c.args.item.number in
    let absent : numbered_as n e.spelled ≡ None =
    none_read e.layout e.spelled (kept_whole e.whole.entries) n c.self.invariant
    (ap (λ (e : EarlyRecords). kept_at e n) c.self.view_is ∙ c.requires) in
    at_rest e.layout e.spelled (kept_whole c.insert.new.self.entries) n absent
    ∙ at_whole c.insert.new.self.entries n
    ∙ ap (option_map (λ (b : Box Record). b.value)) c.in_ok-insert.ensures.updates.1
    ∙ ap Some c.in_ok-kept.ensures.ok

pub returns-clause-others : goal.returns-clause-others
returns-clause-others c k other =
    let e = c.self.inside in
    at_same e.layout e.spelled e.spelled (kept_whole e.whole.entries) (kept_whole c.insert.new.self.entries) k refl
    (whole_same e.whole.entries c.insert.new.self.entries k
    (c.in_ok-insert.ensures.updates.2 k (apart_at c.args.item.number k other)))
    ∙ ap (λ (e : EarlyRecords). kept_at e k) c.self.view_is
