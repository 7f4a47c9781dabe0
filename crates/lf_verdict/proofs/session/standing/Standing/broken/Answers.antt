use Rattle.lf_verdict.proofs.session.standing.Standing.broken.Goals as goal

pub returns-in-Some-clause-some : goal.returns-in-Some-clause-some
returns-in-Some-clause-some c start shape memory records stands watched =
    c.in-Some.ensures.some shape memory records stands
