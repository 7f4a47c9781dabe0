use Rattle.lf_verdict.proofs.One.{outcomes_are_one, verdicts_are_one}
use Rattle.lf_verdict.proofs.laws.verdicts_are_one.Goals as goal

pub returns-clause-outcome : goal.returns-clause-outcome
returns-clause-outcome c = outcomes_are_one (record {
  one_list = c.numbers_are_whole.ensures.one;
  one_outcome = c.outcomes_are_one.ensures.one;
  rings = c.rings_admit_none.ensures;
  interleave = c.orders_interleave.ensures.interleave;
  follow = c.skeletons_follow.ensures.logs;
  keep = c.skeletons_follow.ensures.numbers;
  one_order = c.joins_are_one.ensures.order;
  one_ring = c.joins_are_one.ensures.ring;
  one_trace = c.one_trace.ensures;
  faultless = c.faultless_bytes.ensures;
})

pub returns-clause-verdict : goal.returns-clause-verdict
returns-clause-verdict c = verdicts_are_one (record {
  one_list = c.numbers_are_whole.ensures.one;
  one_outcome = c.outcomes_are_one.ensures.one;
  rings = c.rings_admit_none.ensures;
  interleave = c.orders_interleave.ensures.interleave;
  follow = c.skeletons_follow.ensures.logs;
  keep = c.skeletons_follow.ensures.numbers;
  one_order = c.joins_are_one.ensures.order;
  one_ring = c.joins_are_one.ensures.ring;
  one_trace = c.one_trace.ensures;
  faultless = c.faultless_bytes.ensures;
})
