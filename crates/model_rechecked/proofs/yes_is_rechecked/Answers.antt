use Rattle.model_rechecked.proofs.Accepted.{yes_is_rechecked}
use Rattle.model_rechecked.proofs.yes_is_rechecked.Goals as goal

pub returns : goal.returns
returns c = yes_is_rechecked c.yes_is_legal.ensures c.orders_interleave.ensures.interleave c.rechecks_are_one.ensures
    c.one_trace.ensures
