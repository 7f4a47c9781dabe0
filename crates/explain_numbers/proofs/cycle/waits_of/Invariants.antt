use Rattle.std.proofs.Common.{◌≡◌, ℕ, ◌+◌, ◌%◌, ◌<◌, length, None}
use Rattle.std.specs.Prelude.{slice_index_or}
use Rattle.explain_numbers.specs.Cycle.{IsWaitedFor, wait_at}
use Rattle.explain_numbers.proofs.cycle.waits_of.Given as goal

abbrev pub invariant-loop-j : goal.invariant-loop-j
invariant-loop-j l = record {
  len : length l.waits.items ≡ l.j;
  waiting : (k : ℕ) → k < l.j → (wait_at l.waits.items k).waiting ≡ slice_index_or l.places.items k None;
  earlier : (k : ℕ) → k < l.j → IsWaitedFor l.records.records (slice_index_or l.places.items k None)
      (slice_index_or l.places.items ((k + 1) % l.count) None)
      (wait_at l.waits.items k).earlier;
}
