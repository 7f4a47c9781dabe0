use Rattle.std.proofs.Common.{◌+◌, length, sym, ap, ◌∙◌, subst, arith}
use Rattle.lf_rules.specs.Order.{log_at}
use Rattle.lf_rules.specs.Ring.{skeletons_of}
use Rattle.lf_logs.specs.Lists.{logs_of}
use Rattle.lf_verdict.specs.inner.Coming.{HasLog}
use Rattle.lf_verdict.proofs.Standings.{has_log, skeleton_at, log_below_all}
use Rattle.lf_verdict.proofs.session.standing.log_entries.Entries.place_of.Goals as goal

pub len_of-requires : goal.len_of-requires
len_of-requires c =
    let r = c.requires in
    subst (λ n. HasLog n c.args.self.now) (sym c.log.ensures)
    (has_log r.shape r.records c.args.self.now r.entered c.args.item.now r.may)

pub overflow_cast-result : goal.overflow_cast-result
overflow_cast-result c =
    let log = has_log c.requires.shape c.requires.records c.args.self.now c.requires.entered c.args.item.now
    c.requires.may in
    let same = ap (λ n. length (log_at log.skeletons n)) c.log.ensures in
    omega (arith, c.len_of.ensures log.skeletons log.kept, same, log.short)

pub returns : goal.returns
returns c shape records may entered =
    c.len_of.ensures _ entered.kept
    ∙ ap (λ n. length (log_at (skeletons_of (logs_of (shape.ports + shape.banks) records)) n)) c.log.ensures
    ∙ skeleton_at (shape.ports + shape.banks) records c.args.item.now.log
    (log_below_all shape records c.args.self.now entered c.args.item.now may)
