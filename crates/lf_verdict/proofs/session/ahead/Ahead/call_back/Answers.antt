use Rattle.std.proofs.Common.{sym, ◌∙◌}
use Rattle.lf_verdict.proofs.Aheads.{lent_before, if_ok_more, may_follow, judged_next}
use Rattle.lf_verdict.proofs.session.ahead.Ahead.call_back.Goals as goal

pub end-requires-clause-follow : goal.end-requires-clause-follow
end-requires-clause-follow g c =
    let a = c.args.self.now in
    let w = c.in-Some.workers in
    let bytes = c.requires.can.taken.0 in
    may_follow c.read_so_far.ensures a.intake bytes w.standing.value w.batch.value.records a.records.records
    (lent_before a w bytes (sym c.take.ensures.value ∙ c.in-Some.is) c.requires.can.taken.1)

pub returns-in-Some-clause-taken : goal.returns-in-Some-clause-taken
returns-in-Some-clause-taken g c bytes taken =
    let a = c.args.self.now in
    let w = c.in-Some.workers in
    if_ok_more c.end.result (λ r judged.
    judged_next c.read_so_far.ensures a.intake bytes w.standing.value w.batch.value.records a.records.records
    (lent_before a w bytes (sym c.take.ensures.value ∙ c.in-Some.is) taken) r.0 judged) c.end.ensures.judged
