-- The blocks of the memory that a trace names, from its last to its first.
use Rattle.std.proofs.Common.{◌≡◌, ℕ, suc, ◌-◌, ◌<◌, ◌≤◌, Bool, true, false, cond, ◌==◌, List, ◌∷◌, get_or, drop}
use Rattle.std.proofs.Common.{refl, ap, sym, ◌∙◌, length, arith, slice_index, drop-cons, eqb-true, eq-eqb, ne_eqb}
use mathlib.Core.Path.{fun_ext, ap₂}
use Rattle.arrayvec.specs.ArrayVec.{ArrayVec}
use Rattle.lf_rules.specs.declared.shape.Shape.{Shape}
use Rattle.lf_rules.specs.Address.{FlatMemory, bank_of, flat_memory}
use Rattle.lf_rules.specs.State.{update}
use Rattle.bank_state.specs.Bytes.{bank_part}

taken_next : (memory : List (ℕ × ArrayVec ℕ)) (left : ℕ) (m : ℕ × ArrayVec ℕ) → 0 < left → left ≤ length memory →
    m ≡ get_or memory (left - 1) m → m ∷ drop left memory ≡ drop (left - 1) memory
taken_next memory left m some within here =
    let next : suc (left - 1) ≡ left = omega arith in
    sym (drop-cons memory (left - 1) m (omega arith) ∙ ap₂ (λ (a : ℕ × ArrayVec ℕ) k. a ∷ drop k memory) (sym here)
    next)

whole_more : (m : ℕ × ArrayVec ℕ) (memory : List (ℕ × ArrayVec ℕ)) →
    update (flat_memory memory) m.0 (slice_index m.1.items) ≡ flat_memory (m ∷ memory)
whole_more m memory = fun_ext (λ block. fun_ext (λ place. split (slice_index m.1.items) (flat_memory memory block)
    (m.0 == block) place))
  where
    split : (f g : ℕ → ℕ) (b : Bool) (place : ℕ) → cond b f g place ≡ cond b (f place) (g place)
    split f g true place = refl
    split f g false place = refl

-- one more block of the whole memory
pub whole_step : (memory : List (ℕ × ArrayVec ℕ)) (left : ℕ) (m : ℕ × ArrayVec ℕ) (flat new : FlatMemory)
    (bytes : ℕ → ℕ) → 0 < left → left ≤ length memory
    → m ≡ get_or memory (left - 1) m → flat ≡ flat_memory (drop left memory) → bytes ≡ slice_index m.1.items →
    new ≡ update flat m.0 bytes → new ≡ flat_memory (drop (left - 1) memory)
whole_step memory left m flat new bytes some within here before same step =
    step ∙ ap₂ (λ (f : FlatMemory) (g : ℕ → ℕ). update f m.0 g) before same ∙ whole_more m (drop left memory)
    ∙ ap (λ (ms : List (ℕ × ArrayVec ℕ)). flat_memory ms) (taken_next memory left m some within here)

module _ (shape : Shape) (bank : ℕ) where
  -- a block of the bank, and one of another
  part_more : (m : ℕ × ArrayVec ℕ) (memory : List (ℕ × ArrayVec ℕ)) → (bank_of shape m.0 == bank) ≡ true
      → update (bank_part shape bank (flat_memory memory)) m.0 (slice_index m.1.items)
      ≡ bank_part shape bank (flat_memory (m ∷ memory))
  part_more m memory ours = fun_ext (λ block. fun_ext (λ place. go block place (m.0 == block) refl))
    where
      go : (block place : ℕ) (b : Bool) → (m.0 == block) ≡ b
          → cond b (slice_index m.1.items) (bank_part shape bank (flat_memory memory) block) place
          ≡ cond (bank_of shape block == bank) (cond b (slice_index m.1.items place) (flat_memory memory block place)) 0
      go block place true e = sym (ap (λ c. cond c (slice_index m.1.items place) 0)
          (ap (λ k. bank_of shape k == bank) (sym (eqb-true m.0 block e)) ∙ ours))
      go block place false e = refl

  part_same : (m : ℕ × ArrayVec ℕ) (memory : List (ℕ × ArrayVec ℕ)) → (bank_of shape m.0 == bank) ≡ false →
      bank_part shape bank (flat_memory memory) ≡ bank_part shape bank (flat_memory (m ∷ memory))
  part_same m memory other = fun_ext (λ block. fun_ext (λ place. go block place (m.0 == block) refl))
    where
      go : (block place : ℕ) (b : Bool) → (m.0 == block) ≡ b
          → cond (bank_of shape block == bank) (flat_memory memory block place) 0
          ≡ cond (bank_of shape block == bank) (cond b (slice_index m.1.items place)
          (flat_memory memory block place)) 0
      go block place true e =
          let none : (bank_of shape block == bank) ≡ false =
          ap (λ k. bank_of shape k == bank) (sym (eqb-true m.0 block e)) ∙ other in
          ap (λ c. cond c (flat_memory memory block place) 0) none
          ∙ sym (ap (λ c. cond c (slice_index m.1.items place) 0) none)
      go block place false e = refl

  pub memory_step : (memory : List (ℕ × ArrayVec ℕ)) (left : ℕ) (m : ℕ × ArrayVec ℕ) (flat new : FlatMemory)
      (bytes : ℕ → ℕ) → 0 < left → left ≤ length memory
      → m ≡ get_or memory (left - 1) m → flat ≡ bank_part shape bank (flat_memory (drop left memory)) →
      bank_of shape m.0 ≡ bank → bytes ≡ slice_index m.1.items → new ≡ update flat m.0 bytes
      → new ≡ bank_part shape bank (flat_memory (drop (left - 1) memory))
  memory_step memory left m flat new bytes some within here before ours same step =
      step ∙ ap₂ (λ (f : FlatMemory) (g : ℕ → ℕ). update f m.0 g) before same
      ∙ part_more m (drop left memory) (eq-eqb (bank_of shape m.0) bank ours)
      ∙ ap (λ (ms : List (ℕ × ArrayVec ℕ)). bank_part shape bank (flat_memory ms))
      (taken_next memory left m some within here)

  pub memory_passed : (memory : List (ℕ × ArrayVec ℕ)) (left : ℕ) (m : ℕ × ArrayVec ℕ) (flat : FlatMemory) →
      0 < left → left ≤ length memory
      → m ≡ get_or memory (left - 1) m → flat ≡ bank_part shape bank (flat_memory (drop left memory))
      → (bank_of shape m.0 ≡ bank → ⊥) → flat ≡ bank_part shape bank (flat_memory (drop (left - 1) memory))
  memory_passed memory left m flat some within here before other =
      before ∙ part_same m (drop left memory) (ne_eqb (bank_of shape m.0) bank other)
      ∙ ap (λ (ms : List (ℕ × ArrayVec ℕ)). bank_part shape bank (flat_memory ms))
      (taken_next memory left m some within here)
