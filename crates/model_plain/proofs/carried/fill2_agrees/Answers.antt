use Rattle.std.proofs.Common.{ℕ, Bool, sym, ap, ◌∙◌, inl, inr, arith}
use Rattle.std.proofs.lemmas.Bool.{cases_eq}
use Rattle.lf_rules.specs.Address.{sub_block, part_at, block_bytes, agree_off}
use Rattle.lf_rules.specs.Table.{store_bytes}
use Rattle.bank_state.specs.Bytes.{flat_of}
use Rattle.lf_rules.proofs.Masks.{all_range}
use Rattle.lf_rules.proofs.Masks.{not_all}
use Rattle.model_plain.proofs.carried.fill2_agrees.Goals as goal

pub returns : goal.returns
returns c = sym (all_range _ 0 c.args.shape.now.factor (λ i le lt. c.loop-place.invariant i
    (omega (arith, lt, c.loop-place-test.false))))

pub returns-then-not-part_agrees : goal.returns-then-not-part_agrees
returns-then-not-part_agrees c = not_all _ 0 c.args.shape.now.factor c.loop-place.place (omega arith)
    (omega (arith, c.loop-place-test.true)) (sym c.if-not-part_agrees.true ∙ c.part_agrees.ensures)

pub loop-place-preserved : goal.loop-place-preserved
loop-place-preserved c = λ k lt.
    let agree : ℕ → Bool = λ p. agree_off c.args.shape.now.block
    (part_at c.args.shape.now.block c.args.bytes.now.items p)
    (block_bytes c.args.shape.now (flat_of c.args.memory.now) (sub_block c.args.shape.now c.args.second p))
    (store_bytes c.args.slice.now.waiting.items (sub_block c.args.shape.now c.args.second p)) in
    (elim (cases_eq k c.loop-place.place) [
      | inl same ↦ ap agree same ∙ (sym c.part_agrees.ensures ∙ c.if-not-part_agrees.false)
      | inr apart ↦ c.loop-place.invariant k (omega (arith, lt, apart))
    ])
