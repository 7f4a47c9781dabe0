use Rattle.std.proofs.Common.{ℕ, List, [], Option, take}
use Rattle.explain_history.specs.Asked.{IsLatest}
use Rattle.explain_history.specs.Near.{EndsWith}
use Rattle.explain_history.specs.Touching.{all_before}
use Rattle.explain_history.proofs.NearLemmas.{told}
use Rattle.explain_history.proofs.touching.about_near.Given as goal

abbrev pub invariant-loop-at : goal.invariant-loop-at
invariant-loop-at l = record {
  latest : IsLatest l.shape (all_before [] l.records.records (take l.at-index l.near)) l.requests;
  ends : (far : List (Option ℕ)) →
      EndsWith l.found.items (told l.shape l.records.records l.wanted far l.near l.at-index);
}
