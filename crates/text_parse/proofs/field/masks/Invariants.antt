use Rattle.std.proofs.Common.{◌≡◌, ◌-◌, length}
use Rattle.text_parse.specs.Fields.{masks_at}
use Rattle.text_parse.proofs.MaskLoop.{with_front}
use Rattle.text_parse.proofs.field.masks.Given as goal

abbrev pub invariant-loop : goal.invariant-loop
invariant-loop l =
    (with_front l.masks.items (masks_at (4 - l.counter) l.rest) ≡ masks_at 4 l.text) ×
    (length l.masks.items ≡ l.counter)
