-- What has been written since the loop began is the part of each number so far.
use Rattle.std.specs.List.{flat_map, range_with_len}
use Rattle.std.specs.Fmt.{HasWritten, IsPlainFormatter}
use Rattle.wave_signals.proofs.each.EachDisplay.fmt.Given as goal

abbrev pub invariant-loop-number : goal.invariant-loop-number
invariant-loop-number g l = IsPlainFormatter l.initial.f → HasWritten g.W.Write.write_str_gives l.initial.f
    (flat_map (g.P.Numbered.text_at l.self.part) (range_with_len 0 l.number)) l.f
