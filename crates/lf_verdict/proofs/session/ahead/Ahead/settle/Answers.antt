use Rattle.std.proofs.Common.{[], sym, subst}
use Rattle.lf_verdict.specs.declared.session.ahead.Ahead.{Ahead}
use Rattle.lf_verdict.specs.declared.session.intake.Judging.TheVariants.{Running}
use Rattle.lf_verdict.specs.inner.Fed.{HasTaken}
use Rattle.lf_verdict.proofs.Aheads.{may_follow, judged_next, alone}
use Rattle.lf_verdict.proofs.session.ahead.Ahead.settle.Goals as goal

pub judged-requires-clause-follow : goal.judged-requires-clause-follow
judged-requires-clause-follow g c κs lives =
    let s = c.args.self.now.intake in
    let bytes = c.requires.taken.0 in
    let next = c.in_ok-standing in
    may_follow c.read_so_far.ensures s bytes next.standing next.records.records []
    (alone s bytes next.standing next.records.records (next.ensures.taken bytes c.requires.taken.1))

pub returns-clause-taken : goal.returns-clause-taken
returns-clause-taken g c bytes taken =
    let s = c.args.self.now.intake in
    let next = c.in_ok-standing in
    let end = c.in_ok-standing-2 in
    subst (λ (a : Ahead g.row.G.Denot). HasTaken (record a.intake { judging = Running end.standing }) bytes)
    (sym next.ensures.rest)
    (judged_next c.read_so_far.ensures s bytes next.standing next.records.records []
    (alone s bytes next.standing next.records.records (next.ensures.taken bytes taken)) end.standing end.ensures)
