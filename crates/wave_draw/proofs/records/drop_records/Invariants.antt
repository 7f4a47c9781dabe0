-- Only the event records go.
use Rattle.std.proofs.Common.{◌≡◌, length}
use Rattle.wave_draw.proofs.records.drop_records.Given as goal

abbrev pub invariant-all : goal.invariant-all
invariant-all l = l.reader ≡ record l.initial.reader { records = l.reader.records }

abbrev pub decreases-all : goal.decreases-all
decreases-all l = length l.reader.records
