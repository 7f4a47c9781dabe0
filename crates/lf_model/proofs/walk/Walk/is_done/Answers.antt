use Rattle.std.proofs.Common.{sym, arith}
use Rattle.lf_model.proofs.Walks.{all_empty}
use Rattle.lf_model.proofs.walk.Walk.is_done.Goals as goal

pub returns : goal.returns
returns c = sym (all_empty c.args.self.now.places.items c.args.logs.now.items c.requires
    (λ log lt. c.loop-log.invariant log (omega arith)))
