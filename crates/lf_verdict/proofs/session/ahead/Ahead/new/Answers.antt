use Rattle.std.proofs.Common.{refl}
use Rattle.lf_verdict.proofs.Aheads.{idle_ahead}
use Rattle.lf_verdict.proofs.session.ahead.Ahead.new.Goals as goal

pub returns-clause-ahead : goal.returns-clause-ahead
returns-clause-ahead g c =
    idle_ahead _ refl c.new-2.ensures c.new.ensures.as_asked (λ _. c.new.ensures.settled)
