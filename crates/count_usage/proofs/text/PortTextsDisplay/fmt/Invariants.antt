-- What has been written since the loop began is the lines so far.
use Rattle.std.proofs.Common.{take}
use Rattle.std.specs.Fmt.{HasWritten, IsPlainFormatter}
use Rattle.lf_stats.specs.Text.{lines_from}
use Rattle.count_usage.specs.Text.{port_line}
use Rattle.count_usage.proofs.text.PortTextsDisplay.fmt.Given as goal

abbrev pub invariant-loop-port : goal.invariant-loop-port
invariant-loop-port g l =
    IsPlainFormatter l.initial.f → HasWritten g.W.Write.write_str_gives l.initial.f
    (lines_from (port_line l.self.of) 0 (take l.port l.self.tags.now)) l.f
