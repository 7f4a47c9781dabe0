use Rattle.std.proofs.Common.{◌≡◌, ℕ, ◌≤◌, ◌<◌, drop, length, get_or, None}
use Rattle.std.specs.Prelude.{slice_get}
use Rattle.explain_history.specs.Places.{places_from, is_numbered}
use Rattle.explain_history.proofs.places.places_of_numbers.Given as goal

abbrev pub invariant-loop-place : goal.invariant-loop-place
invariant-loop-place l = record {
  inside : l.place ≤ length l.records.records;
  len : length l.places.items ≡ l.count;
  found : (k : ℕ) → k < l.count → get_or l.places.items k None
      ≡ slice_get (places_from (is_numbered l.bank k) l.place (drop l.place l.records.records)) 0;
}

abbrev pub decreases-loop-place : goal.decreases-loop-place
decreases-loop-place l = l.place
