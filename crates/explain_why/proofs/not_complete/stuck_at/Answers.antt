use Rattle.lf_rules.specs.declared.event.Event.TheVariants as events
use Rattle.lf_rules.specs.declared.event.Record.{Record}
use Rattle.explain_why.proofs.Incomplete.{is_stuck}
use Rattle.explain_why.proofs.not_complete.stuck_at.Goals as goal

no_record : Record
no_record = record { log = 0; bank = 0; number = 0; event = events.Fence }

pub returns : goal.returns
returns c =
    is_stuck c.args.shape.now c.args.records.now.records c.args.most c.args.place _ _ _ no_record _
    c.in_ok-oldest.ensures.oldest c.in_ok-oldest.ensures.inside (c.in_ok-last_at_request.ensures no_record)
    (c.bank.ensures no_record) c.in_ok-state_at_end.ensures
