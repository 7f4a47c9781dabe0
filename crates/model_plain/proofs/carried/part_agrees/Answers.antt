use Rattle.std.proofs.Common.{◌≡◌, ℕ, List, length, ap, ◌∙◌, subst}
use Rattle.lf_rules.specs.Address.{part_at, agree_off, block_bytes}
use Rattle.lf_rules.specs.Registers.{Held}
use Rattle.lf_rules.specs.State.{Missed}
use Rattle.lf_rules.specs.Table.{store_bytes}
use Rattle.lf_rules.proofs.Wide.{part_len}
use Rattle.bank_state.specs.Bytes.{flat_of}
use Rattle.model_plain.proofs.carried.part_agrees.Goals as goal

pub agrees_off-requires-clause-whole : goal.agrees_off-requires-clause-whole
agrees_off-requires-clause-whole c =
    ap length (c.part_at-part.ensures ∙ ap (λ (xs : List ℕ). part_at c.args.shape.now.block xs c.args.place)
    c.deref.ensures.0)
    ∙ part_len c.args.bytes.now.items c.args.shape.now.block c.args.place c.args.shape.now.factor c.requires.inside
    c.requires.len

pub returns : goal.returns
returns c =
    let shape = c.args.shape.now in
    let memory = flat_of c.args.memory.now in
    let part : c.part_at-part.result.now ≡ part_at shape.block c.args.bytes.now.items c.args.place =
    c.part_at-part.ensures ∙ ap (λ (xs : List ℕ). part_at shape.block xs c.args.place) c.deref.ensures.0 in
    let stores = c.store_bytes.ensures ∙ ap (λ (w : List (Held Missed)). store_bytes w c.sub_block-block.result)
    c.deref-2.ensures.value in
    subst (λ b. c.agrees_off.result ≡ agree_off shape.block (part_at shape.block c.args.bytes.now.items c.args.place)
    (block_bytes shape memory b)
    (store_bytes c.args.slice.now.waiting.items b)) c.sub_block-block.ensures
    (c.agrees_off.ensures ∙ (λ i. agree_off shape.block (part i) (block_bytes shape memory c.sub_block-block.result)
    (stores i)))
