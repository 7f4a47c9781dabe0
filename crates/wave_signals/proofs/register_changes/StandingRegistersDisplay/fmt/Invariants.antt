-- What has been written since the loop began is the registers so far.
use Rattle.std.proofs.Common.{take}
use Rattle.std.specs.List.{flat_map}
use Rattle.std.specs.Fmt.{HasWritten, IsPlainFormatter}
use Rattle.wave_signals.specs.Wave.{standing_register}
use Rattle.wave_signals.proofs.register_changes.StandingRegistersDisplay.fmt.Given as goal

abbrev pub invariant-loop-entry : goal.invariant-loop-entry
invariant-loop-entry g l =
    IsPlainFormatter l.initial.f → HasWritten g.W.Write.write_str_gives l.initial.f
    (flat_map (standing_register l.self.registers l.self.level l.self.held.now)
    (take l.entry-index l.self.held.now)) l.f
