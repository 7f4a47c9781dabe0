use Rattle.lf_verdict.proofs.Converse.{Laws, no_runs}
use Rattle.lf_verdict.proofs.laws.no_has_no_run.Goals as goal

pub returns : goal.returns
returns c =
    let laws : Laws = record {
      parts = c.runs_by_parts.ensures;
      copies = c.copies_are_flat.ensures;
      fit = c.interleavings_are_numbered.ensures.fit;
      numbered = c.interleavings_are_numbered.ensures.numbered;
      one_list = c.numbers_are_whole.ensures.one;
      one_outcome = c.outcomes_are_one.ensures.one;
      gaps = c.gaps_admit_none.ensures;
      rings = c.rings_admit_none.ensures;
      one_trace = c.one_trace.ensures;
    } in no_runs laws
