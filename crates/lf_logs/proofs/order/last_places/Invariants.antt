use Rattle.std.proofs.Common.{◌≡◌, ◌≤◌, length, map, take, vec_capacity}
use Rattle.lf_logs.proofs.order.last_places.Given as goal

abbrev pub invariant-loop-tally : goal.invariant-loop-tally
invariant-loop-tally l = record {
  places : l.places.items ≡ map (λ tally. tally.last) (take l.tally-index l.tallies);
  room : length l.tallies ≤ vec_capacity l.places;
}
