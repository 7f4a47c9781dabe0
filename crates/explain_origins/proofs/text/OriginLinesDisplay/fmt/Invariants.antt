-- What has been written since the loop began is the lines so far.
use Rattle.std.proofs.Common.{take}
use Rattle.std.specs.Fmt.{HasWritten, IsPlainFormatter}
use Rattle.explain_lines.specs.Marks.{besides}
use Rattle.explain_origins.specs.Text.{origin_lines}
use Rattle.explain_origins.proofs.text.OriginLinesDisplay.fmt.Given as goal

abbrev pub invariant-loop-origin : goal.invariant-loop-origin
invariant-loop-origin g l =
    IsPlainFormatter l.initial.f
    → HasWritten g.W.Write.write_str_gives l.initial.f
    (origin_lines l.self.listing.records.now.records (besides l.self.listing.marks.now)
    (take l.origin-index l.self.all.now))
    l.f
