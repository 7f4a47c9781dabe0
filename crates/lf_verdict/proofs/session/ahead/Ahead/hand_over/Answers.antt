use Rattle.std.proofs.Common.{[], Option, Some, sym, subst}
use Rattle.lf_verdict.specs.declared.session.ahead.Ahead.{Ahead}
use Rattle.lf_verdict.specs.declared.session.workers.Workers.{Workers}
use Rattle.lf_verdict.specs.inner.Ahead.{session_of}
use Rattle.lf_verdict.specs.inner.Fed.{HasTaken}
use Rattle.lf_verdict.proofs.Aheads.{may_follow, alone, handed}
use Rattle.lf_verdict.proofs.session.ahead.Ahead.hand_over.Goals as goal

pub begin-requires-clause-follow : goal.begin-requires-clause-follow
begin-requires-clause-follow g c κs lives =
    let s = c.args.self.now.intake in
    let bytes = c.requires.can.taken.0 in
    let next = c.in_ok-standing in
    may_follow c.read_so_far.ensures s bytes next.standing next.records.records []
    (alone s bytes next.standing next.records.records (next.ensures.taken bytes c.requires.can.taken.1))

pub returns-clause-taken : goal.returns-clause-taken
returns-clause-taken g c bytes taken =
    let s = c.args.self.now.intake in
    let next = c.in_ok-standing in
    let workers = c.in_ok-workers.workers in
    subst (λ (w : Option Workers). HasTaken (session_of (record c.next_batch.new.self { at_work = w })) bytes)
    (sym c.replace.ensures.after)
    (subst (λ (a : Ahead g.row.G.Denot). HasTaken (session_of (record a { at_work = Some workers })) bytes)
    (sym next.ensures.rest)
    (handed s bytes workers next.standing next.records.records c.next_batch.new.self.records.records
    c.in_ok-workers.ensures.standing c.in_ok-workers.ensures.records next.ensures.none
    (next.ensures.taken bytes taken)))
