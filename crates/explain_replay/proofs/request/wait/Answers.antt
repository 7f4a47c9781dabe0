use Rattle.std.proofs.Common.{sym, ◌∙◌}
use Rattle.explain_replay.proofs.WaitingLemmas.{one_accepted}
use Rattle.explain_history.specs.Touching.{record_at}
use Rattle.explain_replay.proofs.request.wait.Goals as goal

pub returns-then-accepts_at : goal.returns-then-accepts_at
returns-then-accepts_at c =
    c.pop_front.ensures.rest
    ∙ sym (one_accepted c.args.port c.args.tag c.args.waiting.now.items
    (record_at c.args.records.now.records c.args.place) (sym c.accepts_at.ensures ∙ c.if-accepts_at.true))
