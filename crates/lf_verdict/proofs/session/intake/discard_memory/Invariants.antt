use Rattle.std.proofs.Common.{◌≡◌, ℕ, List, length}
use Rattle.lf_rules.specs.declared.event.Record.{Record}
use Rattle.lf_rules.specs.Fits.{Bytes}
use Rattle.lf_codec.specs.Reader.{HasRead}
use Rattle.lf_verdict.proofs.session.intake.discard_memory.Given as goal

abbrev pub invariant-loop : goal.invariant-loop
invariant-loop l = (l.reader ≡ record l.fn.reader { memory = l.reader.memory }) × ((bytes : List ℕ)
    (memory : List (ℕ × Bytes)) (records : List Record) → HasRead l.fn.reader bytes memory records
    → (more : List (ℕ × Bytes)) × HasRead l.reader bytes more records)

abbrev pub decreases-loop : goal.decreases-loop
decreases-loop l = length l.reader.memory
