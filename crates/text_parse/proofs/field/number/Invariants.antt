use Rattle.std.proofs.Common.{◌≡◌, ◌≤◌, drop}
use Rattle.text_parse.specs.Fields.{number_after}
use Rattle.text_parse.proofs.field.number.Given as goal

abbrev pub invariant-loop-digit : goal.invariant-loop-digit
invariant-loop-digit l =
    (number_after l.radix l.most l.number (drop l.digit-index l.digits) ≡ number_after l.radix l.most 0 l.digits)
    × (l.number ≤ l.most)
