use Rattle.std.proofs.Common.{◌≡◌, ℕ, List, length}
use Rattle.lf_rules.specs.declared.event.Record.{Record}
use Rattle.lf_rules.specs.Fits.{Bytes}
use Rattle.lf_codec.specs.Reader.{HasRead}
use Rattle.lf_verdict.proofs.session.intake.discard_records.Given as goal

abbrev pub invariant-loop : goal.invariant-loop
invariant-loop l = (l.reader ≡ record l.fn.reader { records = l.reader.records }) × ((bytes : List ℕ)
    (memory : List (ℕ × Bytes)) (records : List Record) → HasRead l.fn.reader bytes memory records
    → (more : List Record) × HasRead l.reader bytes memory more)

abbrev pub decreases-loop : goal.decreases-loop
decreases-loop l = length l.reader.records
