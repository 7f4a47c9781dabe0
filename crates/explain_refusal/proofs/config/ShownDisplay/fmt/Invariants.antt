-- What has been written since the loop began is the bytes so far.
use Rattle.std.proofs.Common.{take}
use Rattle.std.specs.Fmt.{HasWritten, IsPlainFormatter}
use Rattle.std.specs.List.{flat_map}
use Rattle.explain_refusal.specs.Config.{shown}
use Rattle.explain_refusal.proofs.config.ShownDisplay.fmt.Given as goal

abbrev pub invariant-loop-byte : goal.invariant-loop-byte
invariant-loop-byte g l =
    IsPlainFormatter l.initial.f → HasWritten g.W.Write.write_str_gives l.initial.f
    (flat_map shown (take l.byte-index l.self.0.now)) l.f
