-- No line so far is refused, and the map has what they tell.
use Rattle.std.proofs.Common.{◌≡◌, ℕ, [], take, drop}
use Rattle.explain_lines.specs.Map.{fault_from, time_in, time_of}
use Rattle.explain_lines.specs.Steps.{texts}
use Rattle.explain_lines.proofs.times.Times.of_lines.Given as goal

abbrev pub invariant-loop-at : goal.invariant-loop-at
invariant-loop-at l = record {
  fault : fault_from (take l.at (texts l.lines)) (drop l.at (texts l.lines)) ≡ fault_from [] (texts l.lines);
  times : (log : ℕ) (place : ℕ) → time_of l.times log place ≡ time_in (take l.at (texts l.lines)) log place;
}
