use Rattle.std.proofs.Common.{◌≡◌, ℕ, ◌*◌, ◌<◌, ◌≤◌, List, length, get_or, take, sym, ap, ◌∙◌, subst, arith}
use Rattle.std.proofs.lemmas.List.{take_more, take_all}
use Rattle.lf_rules.specs.declared.shape.Shape.{Shape}
use Rattle.lf_rules.specs.Outcomes.{first_local}
use Rattle.lf_replay.specs.Step.{bank_after}
use Rattle.explain_replay.specs.Named.{AreNamed}
use Rattle.explain_replay.proofs.NamedLemmas.{named_more}
use Rattle.explain_replay.proofs.named.named_blocks.Goals as goal

pub loop-block-preserved : goal.loop-block-preserved
loop-block-preserved c = λ shape memory bank rs stands.
    let now = bank_after shape (first_local memory) rs in
    let blocks = c.args.blocks.now in
    let i = c.loop-block.block-index in
    let lt : i < length blocks = c.loop-block-test.true in
    let same : c.args.shape.now ≡ shape = sym c.requires.shape ∙ stands.state.of_shape in
    let block = get_or blocks i 0 in
    subst (λ (xs : List ℕ). AreNamed c.push.new.self.items xs shape now) (sym (take_more blocks i 0 lt))
    (named_more shape now c.loop-block.all.items c.push.new.self.items (take i blocks) c.named.result block
    (c.loop-block.invariant shape memory bank rs stands)
    c.named.ensures.block (c.named.ensures.address ∙ ap (λ (s : Shape). block * s.block) same)
    (c.named.ensures.state shape memory bank rs stands)
    c.in_ok-push.ensures.items)

pub returns : goal.returns
returns c = λ shape memory bank rs stands.
    let now = bank_after shape (first_local memory) rs in
    let blocks = c.args.blocks.now in
    let whole : length blocks ≤ c.loop-block.block-index = omega
    (arith, c.loop-block-test.false, c.loop-block.auto.block-index-end) in
    subst (λ (xs : List ℕ). AreNamed c.loop-block.all.items xs shape now)
    (take_all c.loop-block.block-index blocks whole)
    (c.loop-block.invariant shape memory bank rs stands)
