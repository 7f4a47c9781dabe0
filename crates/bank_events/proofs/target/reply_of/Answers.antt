use Rattle.std.proofs.Common.{◌≡◌, ◌/◌, ◌%◌, [], take, cond, ap, ◌∙◌}
use Rattle.std.specs.Int.{to_le_bytes, w64}
use Rattle.std.specs.Int.RustNames.{count_ones}
use Rattle.bank_events.proofs.Targets.{reply_told}
use Rattle.bank_events.proofs.target.reply_of.Goals as goal
use Rattle.bank_events.proofs.target.reply_of.Goals.{then-target, else-target}

pub returns : goal.returns
returns c = λ missed tells.
    let value : c.if-target.value.items ≡ cond c.args.target.now.is_store []
    (take (count_ones c.args.target.now.bytes.0) (to_le_bytes w64 c.args.target.now.value)) =
    elim c.if-target.branch [
      | then-target w ↦ rw (w.value-is, w.if-target.true) w.new-value.ensures
      | else-target w ↦ rw (w.value-is, w.if-target.false) w.first_bytes-value.ensures
    ] in
    c.new.ensures ∙ reply_told c.args.shape.now c.args.target.now missed _ tells
    (c.quotient-port.ensures ∙ ap (λ n. n / c.args.shape.now.tags) c.from-destination.ensures)
    (c.remainder-tag.ensures ∙ ap (λ n. n % c.args.shape.now.tags) c.from-destination.ensures) value
