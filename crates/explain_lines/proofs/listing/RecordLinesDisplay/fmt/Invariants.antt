-- What has been written since the loop began is the lines so far.
use Rattle.std.proofs.Common.{take}
use Rattle.std.specs.Fmt.{HasWritten, IsPlainFormatter}
use Rattle.explain_lines.specs.Marks.{besides}
use Rattle.explain_lines.specs.Lines.{lines_text}
use Rattle.explain_lines.proofs.listing.RecordLinesDisplay.fmt.Given as goal

abbrev pub invariant-loop-place : goal.invariant-loop-place
invariant-loop-place g l =
    IsPlainFormatter l.initial.f
    → HasWritten g.W.Write.write_str_gives l.initial.f
    (lines_text l.self.listing.records.now.records (besides l.self.listing.marks.now)
    (take l.place-index l.self.places.now))
    l.f
