use Rattle.std.proofs.Common.{◌≡◌, sym, ap, ◌∙◌}
use Rattle.lf_rules.specs.declared.shape.Shape.{Shape}
use Rattle.lf_rules.specs.Address.{sub_block, block_bytes, masked}
use Rattle.lf_rules.specs.Outcomes.{first_local}
use Rattle.lf_replay.specs.Step.{bank_after}
use Rattle.explain_replay.proofs.carried.evicted_part.Goals as goal

pub returns : goal.returns
returns c = λ shape memory bank rs stands.
    let now = bank_after shape (first_local memory) rs in
    let same : c.args.shape.now ≡ shape = sym c.requires.shape ∙ stands.state.of_shape in
    let block : c.sub_block-block.result ≡ sub_block shape c.args.second c.args.place =
    c.sub_block-block.ensures ∙ ap (λ (s : Shape). sub_block s c.args.second c.args.place) same in
    c.evicted.ensures shape memory bank rs stands ∙ (λ i. masked (block_bytes shape now.memory (block i))
    (c.mask_at.ensures i))
