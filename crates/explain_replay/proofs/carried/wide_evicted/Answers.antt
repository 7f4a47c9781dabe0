use Rattle.std.proofs.Common.{◌≡◌, ℕ, List, ◌++◌, sym, ap, ◌∙◌, arith}
use Rattle.std.specs.List.{flat_map, range_with_len}
use mathlib.Core.Path.{ap₂}
use Rattle.lf_rules.specs.declared.shape.Shape.{Shape}
use Rattle.lf_rules.specs.Address.{sub_block, block_bytes, masked, mask_at}
use Rattle.lf_rules.specs.Outcomes.{first_local}
use Rattle.lf_rules.proofs.Wide.{flat_next}
use Rattle.lf_replay.specs.Step.{bank_after}
use Rattle.explain_replay.proofs.carried.wide_evicted.Goals as goal

pub loop-place-preserved : goal.loop-place-preserved
loop-place-preserved c = λ shape memory bank rs stands.
    let now = bank_after shape (first_local memory) rs in
    let f : ℕ → List ℕ = λ p. masked (block_bytes shape now.memory (sub_block shape c.args.second p))
    (mask_at c.args.masks.now p) in
    c.in_ok-extend_from_slice.ensures.items
    ∙ ap₂ (λ (xs ys : List ℕ). xs ++ ys) (c.loop-place.invariant shape memory bank rs stands)
    (c.deref.ensures.0 ∙ c.evicted_part-bytes.ensures shape memory bank rs stands)
    ∙ sym (flat_next f c.loop-place.place)

pub returns : goal.returns
returns c = λ shape memory bank rs stands.
    let now = bank_after shape (first_local memory) rs in
    let f : ℕ → List ℕ = λ p. masked (block_bytes shape now.memory (sub_block shape c.args.second p))
    (mask_at c.args.masks.now p) in
    let same : c.args.shape.now ≡ shape = sym c.requires.shape ∙ stands.state.of_shape in
    let all : c.loop-place.place ≡ c.args.shape.now.factor =
    omega (arith, c.loop-place-test.false, c.loop-place.auto.place-end) in
    c.loop-place.invariant shape memory bank rs stands ∙ ap (λ n. flat_map f (range_with_len 0 n))
    (all ∙ ap (λ (s : Shape). s.factor) same)
