-- What has been written since the loop began is the parts so far.
use Rattle.std.proofs.Common.{take}
use Rattle.std.specs.Fmt.{HasWritten, IsPlainFormatter}
use Rattle.explain_lines.specs.Marks.{besides}
use Rattle.explain_why.specs.NotComplete.{state_text}
use Rattle.explain_why.proofs.not_complete.StateDisplay.fmt.Given as goal

abbrev pub invariant-loop-origins : goal.invariant-loop-origins
invariant-loop-origins g l =
    IsPlainFormatter l.initial.f
    → HasWritten g.W.Write.write_str_gives l.initial.f
    (state_text l.self.listing.records.now.records (besides l.self.listing.marks.now)
    (take l.origins-index l.self.state.now)) l.f
