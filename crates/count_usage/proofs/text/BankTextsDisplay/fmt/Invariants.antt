-- What has been written since the loop began is the lines so far.
use Rattle.std.proofs.Common.{take}
use Rattle.std.specs.Fmt.{HasWritten, IsPlainFormatter}
use Rattle.lf_stats.specs.Text.{lines_from}
use Rattle.count_usage.specs.Text.{bank_lines}
use Rattle.count_usage.proofs.text.BankTextsDisplay.fmt.Given as goal

abbrev pub invariant-loop-bank : goal.invariant-loop-bank
invariant-loop-bank g l =
    IsPlainFormatter l.initial.f → HasWritten g.W.Write.write_str_gives l.initial.f
    (lines_from (bank_lines l.self.shape.now) 0 (take l.bank l.self.banks.now)) l.f
