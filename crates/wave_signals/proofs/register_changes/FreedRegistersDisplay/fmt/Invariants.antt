-- What has been written since the loop began is that of the registers so far.
use Rattle.std.proofs.Common.{take}
use Rattle.std.specs.List.{flat_map}
use Rattle.std.specs.Fmt.{HasWritten, IsPlainFormatter}
use Rattle.wave_signals.specs.Wave.{freed_by}
use Rattle.wave_signals.proofs.register_changes.FreedRegistersDisplay.fmt.Given as goal

abbrev pub invariant-loop-entry : goal.invariant-loop-entry
invariant-loop-entry g l =
    IsPlainFormatter l.initial.f → HasWritten g.W.Write.write_str_gives l.initial.f
    (flat_map (freed_by l.self.registers l.self.level l.self.bank l.self.block)
    (take l.entry-index l.self.held.now)) l.f
