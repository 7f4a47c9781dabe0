use Rattle.explain_lines.proofs.Keys.{put_at}
use Rattle.explain_lines.proofs.times.put.Goals as goal

pub returns-clause-ok : goal.returns-clause-ok
returns-clause-ok c =
    λ n p. put_at c.args.times.now c.insert.new.self c.args.log c.args.place c.args.time n p
    (c.in_ok-insert.ensures.updates.0 (n, p))
