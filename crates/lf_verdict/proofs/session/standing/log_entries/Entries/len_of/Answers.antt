use Rattle.std.proofs.Common.{arith}
use Rattle.lf_verdict.proofs.Standings.{logs_len, log_len}
use Rattle.lf_verdict.proofs.session.standing.log_entries.Entries.len_of.Goals as goal

pub index-requires : goal.index-requires
index-requires c =
    let r = c.requires in
    omega (arith, c.from.ensures, r.inside, logs_len r.skeletons c.args.self.now r.kept)

pub returns : goal.returns
returns c skeletons kept =
    let e = c.args.self.now in
    let r = c.requires in
    omega (
      arith,
      c.gone.ensures,
      c.len.ensures,
      log_len skeletons e kept c.args.log c.from.result c.index.result.now c.from.ensures c.index.ensures
          (omega (arith, logs_len skeletons e kept, logs_len r.skeletons e r.kept, r.inside)),
    )
