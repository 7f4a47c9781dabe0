use Rattle.std.proofs.Common.{◌<◌, [], length, ap, ◌∙◌, arith}
use Rattle.std.specs.List.{sum_by}
use Rattle.std.proofs.lemmas.List.{take_all}
use Rattle.lf_verdict.proofs.Standings.{logs_len}
use Rattle.lf_verdict.proofs.session.standing.log_entries.Entries.count.Goals as goal

pub overflow_cast-log : goal.overflow_cast-log
overflow_cast-log c =
    let all = c.requires in
    omega (
      arith,
      c.loop-log-test.true,
      c.len-log-end.ensures,
      logs_len all.0 c.args.self.now all.1.kept,
      all.1.few,
    )

pub len_of-requires : goal.len_of-requires
len_of-requires c =
    let all = c.requires in
    let inside : c.loop-log.log < length all.0 =
    omega (arith, c.loop-log-test.true, c.len-log-end.ensures, logs_len all.0 c.args.self.now all.1.kept) in
    record {
      skeletons = all.0;
      kept = all.1.kept;
      few = all.1.few;
      inside = inside;
      short = all.1.short c.loop-log.log [] inside;
    }

pub returns : goal.returns
returns c skeletons all =
    c.loop-log.invariant.sum skeletons all
    ∙ ap (sum_by length) (take_all c.loop-log.log skeletons
    (omega (arith, c.loop-log-test.false, c.len-log-end.ensures, logs_len skeletons c.args.self.now all.kept)))
