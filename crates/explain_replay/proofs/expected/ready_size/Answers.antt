use Rattle.std.proofs.Common.{sym, ap, length}
use Rattle.explain_replay.proofs.Listed.{no_value}
use Rattle.explain_replay.proofs.expected.ready_size.Goals as goal

pub returns-in-Some : goal.returns-in-Some
returns-in-Some c = λ shape memory bank rs stands. ap length (c.in-Some.ensures shape memory bank rs stands).1

pub returns-in-None : goal.returns-in-None
returns-in-None c = λ shape memory bank rs stands.
    sym (ap length (no_value c.args.port c.args.tag _ (c.in-None.ensures shape memory bank rs stands)))
