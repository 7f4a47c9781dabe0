use Rattle.std.proofs.Common.{arith}
use Rattle.lf_verdict.proofs.Standings.{logs_len}
use Rattle.lf_verdict.proofs.session.standing.log_entries.Entries.lets_go.Goals as goal

pub index-requires : goal.index-requires
index-requires c =
    let r = c.requires in
    omega (arith, c.from.ensures, r.inside, logs_len r.skeletons c.args.self.now r.kept)
