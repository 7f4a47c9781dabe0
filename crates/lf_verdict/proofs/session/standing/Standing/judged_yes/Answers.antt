use Rattle.std.proofs.lemmas.Result.{err_from_is_err_and}
use Rattle.lf_verdict.proofs.session.standing.Standing.judged_yes.Goals as goal

pub returns-in_err-events-clause-fault : goal.returns-in_err-events-clause-fault
returns-in_err-events-clause-fault c shape memory records stands short =
    let p = err_from_is_err_and c.from_residual.result c.from_residual.ensures.1 in
    rw (p.1, p.2) (c.in_err-events.ensures.fault shape memory records stands short)

pub returns-clause-judged : goal.returns-clause-judged
returns-clause-judged c shape memory records stands short =
    let found = c.in_ok-events.ensures.order shape memory records stands short in
    record {
      outcome = found.has;
      order = found.least;
      incomplete = c.first_incomplete.ensures shape memory records stands found.has.parts;
      statistics = c.in_ok-statistics.ensures.counted shape memory records stands short found.has.parts;
      after_yes = λ _. tt;
    }
