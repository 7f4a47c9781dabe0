use Rattle.std.proofs.Common.{inl, inr}
use Rattle.lf_rules.proofs.Numbered.{gaps_admit_none}
use Rattle.lf_rules.proofs.Rings.{rings_admit_none}
use Rattle.lf_rules.proofs.laws.collected_logs_are_free.Goals as goal

pub returns : goal.returns
returns c logs common = record {
  none_missing = λ bank k named missing. gaps_admit_none logs bank k named (inl missing) common.all common.interleaves
      common.numbers;
  none_double = λ bank k named double. gaps_admit_none logs bank k named (inr double) common.all common.interleaves
      common.numbers;
  no_ring = λ ring is. rings_admit_none logs ring is common.all common.interleaves common.numbers;
}
