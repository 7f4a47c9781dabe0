use Rattle.std.proofs.Common.{ap, sym, ◌∙◌, is_some, option_map}
use Rattle.std.specs.Global.{Box}
use Rattle.lf_rules.specs.declared.event.Record.{Record}
use Rattle.lf_logs.proofs.EarlyLookups.{at_whole, whole_same, is_some_whole}
use Rattle.lf_logs.proofs.Reordered.{apart_at}
use Rattle.lf_logs.proofs.early.drop_whole.Goals as goal

pub returns-then-not-is_empty-clause-was : goal.returns-then-not-is_empty-clause-was
returns-then-not-is_empty-clause-was c = c.is_some.ensures ∙ ap is_some c.remove.ensures.value
    ∙ sym (is_some_whole c.args.whole.now.entries c.args.number)

pub returns-then-not-is_empty-clause-gone : goal.returns-then-not-is_empty-clause-gone
returns-then-not-is_empty-clause-gone c = at_whole c.remove.new.self.entries c.args.number
    ∙ ap (option_map (λ (b : Box Record). b.value)) c.remove.ensures.updates.1

pub returns-then-not-is_empty-clause-others : goal.returns-then-not-is_empty-clause-others
returns-then-not-is_empty-clause-others c k other =
    whole_same c.args.whole.now.entries c.remove.new.self.entries k
    (c.remove.ensures.updates.2 k (apart_at c.args.number k other))
