use Rattle.lf_verdict.proofs.Composed.{Laws, yes_is_legal}
use Rattle.lf_verdict.proofs.laws.yes_is_legal.Goals as goal

pub returns : goal.returns
returns c =
    let laws : Laws = record {
      parts = c.runs_by_parts.ensures;
      once = c.runs_are_right.ensures.once;
      share = c.runs_are_right.ensures.sharing;
      are_flat = c.runs_are_right.ensures.flat;
      fit = c.interleavings_are_numbered.ensures.fit;
      numbered = c.interleavings_are_numbered.ensures.numbered;
      one = c.numbers_are_whole.ensures.one;
      interleave = c.orders_interleave.ensures.interleave;
      logs = c.skeletons_follow.ensures.logs;
      keep = c.skeletons_follow.ensures.numbers;
    } in yes_is_legal laws
