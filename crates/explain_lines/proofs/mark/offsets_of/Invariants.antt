-- The first records have their offsets, and the next begins here.
use Rattle.std.proofs.Common.{◌≡◌, ◌+◌, ◌<◌, ◌^◌, take}
use Rattle.lf_codec.specs.Lengths.{bytes_len}
use Rattle.explain_lines.specs.Marks.{offsets_of}
use Rattle.explain_lines.proofs.mark.offsets_of.Given as goal

abbrev pub invariant-loop-place : goal.invariant-loop-place
invariant-loop-place l = l.start + bytes_len l.records.records < 2 ^ 64
    → (l.offset ≡ l.start + bytes_len (take l.place l.records.records))
    × (l.offsets.items ≡ offsets_of l.start (take l.place l.records.records))
