use Rattle.std.proofs.Common.{List, ap, ◌∙◌}
use Rattle.lf_rules.specs.Address.{agree_off, block_bytes}
use Rattle.lf_rules.specs.Registers.{Held}
use Rattle.lf_rules.specs.State.{Missed}
use Rattle.lf_rules.specs.Table.{store_bytes}
use Rattle.bank_state.specs.Bytes.{flat_of}
use Rattle.model_plain.proofs.carried.fill1_agrees.Goals as goal

pub returns : goal.returns
returns c =
    let shape = c.args.shape.now in
    let stores = c.store_bytes.ensures ∙ ap (λ (w : List (Held Missed)). store_bytes w c.args.block)
    c.deref-2.ensures.value in
    c.agrees_off.ensures ∙ (λ i. agree_off shape.block (c.deref.ensures.0 i)
    (block_bytes shape (flat_of c.args.memory.now) c.args.block) (stores i))
