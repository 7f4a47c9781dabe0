use Rattle.lf_replay.proofs.Runs.{on_ok}
use Rattle.lf_replay.proofs.bank_step.Step.apply_view.Goals as goal

pub returns-clause-stands : goal.returns-clause-stands
returns-clause-stands c = λ shape memory bank rs stands.
    let before = rw (← c.self.view_is) at stands in
    on_ok c.apply.result (λ after. record { of_bank = before.of_bank; state = after })
    (c.apply.ensures.stands shape memory rs before.state)

pub returns-clause-broken : goal.returns-clause-broken
returns-clause-broken c = λ shape memory bank rs stands.
    let before = rw (← c.self.view_is) at stands in
    c.apply.ensures.broken shape memory rs before.state
