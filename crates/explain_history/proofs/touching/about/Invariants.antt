use Rattle.std.proofs.Common.{◌≡◌, [], take}
use Rattle.explain_history.specs.Asked.{IsLatest}
use Rattle.explain_history.specs.Touching.{all_before}
use Rattle.explain_history.proofs.NearLemmas.{told}
use Rattle.explain_history.proofs.touching.about.Given as goal

abbrev pub invariant-loop-at : goal.invariant-loop-at
invariant-loop-at l = record {
  latest : IsLatest l.shape (all_before [] l.records.records (take l.at-index l.places)) l.requests;
  found : l.found.items ≡ told l.shape l.records.records l.wanted [] l.places l.at-index;
}
