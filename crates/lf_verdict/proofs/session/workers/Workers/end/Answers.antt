use Rattle.lf_verdict.proofs.session.workers.Workers.end.Goals as goal

pub returns-clause-judged : goal.returns-clause-judged
returns-clause-judged g c =
    let w = c.args.self in
    c.in_ok-together.ensures w.standing.value w.batch.value.records
    (c.requires.workers.entries c.join-entries.result c.join-entries.ensures)
    (c.requires.workers.banks c.join-banks.result c.join-banks.ensures)
