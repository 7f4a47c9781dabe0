-- What has been written since the loop began is the digits of all bytes but the rest.
use Rattle.std.proofs.Common.{length}
use Rattle.std.specs.Fmt.{HasWritten, IsPlainFormatter}
use Rattle.text_print.proofs.Digits.{IsSpelledTo}
use Rattle.text_print.proofs.data.HexDisplay.fmt.Given as goal

abbrev pub decreases-loop-rest : goal.decreases-loop-rest
decreases-loop-rest g l = length l.rest

abbrev pub invariant-loop-rest : goal.invariant-loop-rest
invariant-loop-rest g l =
    IsPlainFormatter l.initial.f → IsSpelledTo (HasWritten g.W.Write.write_str_gives l.initial.f) l.self.0.now l.rest
    l.f
