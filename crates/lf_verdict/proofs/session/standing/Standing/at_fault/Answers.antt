use Rattle.lf_verdict.proofs.Breaks.{all_whole_parts, if_none}
use Rattle.lf_verdict.proofs.Named.{named_bank_if}
use Rattle.lf_verdict.proofs.session.standing.Standing.at_fault.Goals as goal

pub returns-in-None-clause-none : goal.returns-in-None-clause-none
returns-in-None-clause-none c shape memory records stands =
    if_none c.bank_at_fault.result (c.bank_at_fault.ensures.none shape memory records stands)
    (all_whole_parts shape memory records (c.in-None.ensures.none shape memory records stands))

pub returns-in-None-clause-named : goal.returns-in-None-clause-named
returns-in-None-clause-named c shape memory records stands =
    named_bank_if shape memory records c.bank_at_fault.result
    (c.bank_at_fault.ensures.some shape memory records stands)
    (c.bank_at_fault.ensures.lowest shape memory records stands) (c.in-None.ensures.none shape memory records stands)
