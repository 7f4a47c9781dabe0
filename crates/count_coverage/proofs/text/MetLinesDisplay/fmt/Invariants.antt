-- What has been written since the loop began is the lines so far.
use Rattle.std.proofs.Common.{take}
use Rattle.std.specs.Fmt.{HasWritten, IsPlainFormatter}
use Rattle.count_coverage.specs.Text.{met, lines_of}
use Rattle.count_coverage.proofs.text.MetLinesDisplay.fmt.Given as goal

abbrev pub invariant-loop-tally : goal.invariant-loop-tally
invariant-loop-tally g l =
    IsPlainFormatter l.initial.f → HasWritten g.W.Write.write_str_gives l.initial.f
    (lines_of (met (take l.tally-index l.self.0.now))) l.f
