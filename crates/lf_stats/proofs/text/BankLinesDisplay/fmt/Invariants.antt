-- What has been written since the loop began is the lines so far.
use Rattle.std.proofs.Common.{take}
use Rattle.std.specs.Fmt.{HasWritten, IsPlainFormatter}
use Rattle.lf_stats.specs.Text.{bank_line, lines_from}
use Rattle.lf_stats.proofs.text.BankLinesDisplay.fmt.Given as goal

abbrev pub invariant-loop-bank : goal.invariant-loop-bank
invariant-loop-bank g l =
    IsPlainFormatter l.initial.f → HasWritten g.W.Write.write_str_gives l.initial.f
    (lines_from bank_line 0 (take l.bank-counter l.self.0.now)) l.f
