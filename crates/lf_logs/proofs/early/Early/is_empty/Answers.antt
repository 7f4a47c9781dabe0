use Rattle.std.proofs.Common.{◌≡◌, [], ap, arith, length}
use Rattle.std.proofs.lemmas.List.{nil_from_length}
use Rattle.lf_logs.specs.EarlyRecords.{EarlyRecords, kept_whole}
use Rattle.lf_logs.proofs.EarlyLookups.{length_parts}
use Rattle.lf_logs.proofs.early.Early.is_empty.Goals as goal

pub returns-else-is_empty : goal.returns-else-is_empty
returns-else-is_empty c = (
  λ yes. absurd (cc),
  λ none.
      let e = c.self.inside in
      let nil : e.spelled ≡ [] = nil_from_length e.spelled (omega (
        arith,
        length_parts e.layout e.spelled (kept_whole e.whole.entries) c.self.invariant,
        ap (λ (early : EarlyRecords). length early.records) c.self.view_is,
        ap length none,
      )) in
      c.is_empty.ensures.1 nil,
)
