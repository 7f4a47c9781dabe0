-- What has been written since the loop began is the masks so far.
use Rattle.std.proofs.Common.{take}
use Rattle.std.specs.Fmt.{HasWritten, IsPlainFormatter}
use Rattle.text_print.specs.Text.{masks_text}
use Rattle.text_print.proofs.record.MaskFieldsDisplay.fmt.Given as goal

abbrev pub invariant-loop-mask : goal.invariant-loop-mask
invariant-loop-mask g l =
    IsPlainFormatter l.initial.f → HasWritten g.W.Write.write_str_gives l.initial.f
    (masks_text (take l.mask-index l.self.0.now)) l.f
