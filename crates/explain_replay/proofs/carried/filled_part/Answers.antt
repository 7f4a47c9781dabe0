use Rattle.std.proofs.Common.{◌≡◌, ℕ, List, sym, ap, ◌∙◌}
use Rattle.lf_rules.specs.declared.shape.Shape.{Shape}
use Rattle.lf_rules.specs.Address.{sub_block, part_at}
use Rattle.lf_rules.specs.Outcomes.{first_local}
use Rattle.lf_replay.specs.Step.{bank_after}
use Rattle.explain_replay.specs.Carried.{filled}
use Rattle.explain_replay.proofs.carried.filled_part.Goals as goal

pub returns : goal.returns
returns c = λ shape memory bank rs stands.
    let now = bank_after shape (first_local memory) rs in
    let same : c.args.shape.now ≡ shape = sym c.requires.shape ∙ stands.state.of_shape in
    let block : c.sub_block-block.result ≡ sub_block shape c.args.second c.args.place =
    c.sub_block-block.ensures ∙ ap (λ (s : Shape). sub_block s c.args.second c.args.place) same in
    let part : c.part_at-part.result.now ≡ part_at shape.block c.args.found.now.items c.args.place =
    c.part_at-part.ensures ∙ ap (λ (xs : List ℕ). part_at c.args.shape.now.block xs c.args.place) c.deref.ensures.0
    ∙ ap (λ (s : Shape). part_at s.block c.args.found.now.items c.args.place) same in
    c.filled.ensures shape memory bank rs stands ∙ (λ i. filled shape now (block i) (part i))
