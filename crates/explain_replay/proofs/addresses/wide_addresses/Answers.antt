use Rattle.std.proofs.Common.{◌≡◌, ℕ, List, ◌++◌, sym, ap, ◌∙◌, arith}
use Rattle.std.specs.List.{flat_map, range_with_len}
use mathlib.Core.Path.{ap₂}
use Rattle.lf_rules.specs.Address.{sub_block, mask_at}
use Rattle.lf_rules.proofs.Wide.{flat_next}
use Rattle.explain_replay.specs.Addresses.{masked_addresses}
use Rattle.explain_replay.proofs.addresses.wide_addresses.Goals as goal

pub loop-place-preserved : goal.loop-place-preserved
loop-place-preserved c =
    let shape = c.args.shape.now in
    let f : ℕ → List ℕ = λ p. masked_addresses shape (sub_block shape c.args.second p) (mask_at c.args.masks.now p) in
    c.in_ok-extend_from_slice.ensures.items
    ∙ ap₂ (λ (xs ys : List ℕ). xs ++ ys) c.loop-place.invariant (c.deref.ensures.0 ∙ c.part_addresses-addresses.ensures)
    ∙ sym (flat_next f c.loop-place.place)

pub returns : goal.returns
returns c =
    let shape = c.args.shape.now in
    let f : ℕ → List ℕ = λ p. masked_addresses shape (sub_block shape c.args.second p) (mask_at c.args.masks.now p) in
    let all : c.loop-place.place ≡ shape.factor = omega (arith, c.loop-place-test.false, c.loop-place.auto.place-end) in
    c.loop-place.invariant ∙ ap (λ n. flat_map f (range_with_len 0 n)) all
