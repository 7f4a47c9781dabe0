-- What has been written since the loop began is the lines so far.
use Rattle.std.proofs.Common.{take}
use Rattle.std.specs.Fmt.{HasWritten, IsPlainFormatter}
use Rattle.explain_lines.specs.Marks.{besides}
use Rattle.explain_numbers.specs.Text.{waits_text}
use Rattle.explain_numbers.proofs.text.WaitsLinesDisplay.fmt.Given as goal

abbrev pub invariant-loop-wait : goal.invariant-loop-wait
invariant-loop-wait g l =
    IsPlainFormatter l.initial.f
    → HasWritten g.W.Write.write_str_gives l.initial.f
    (waits_text l.self.listing.records.now.records (besides l.self.listing.marks.now)
    (take l.wait-index l.self.waits.now)) l.f
