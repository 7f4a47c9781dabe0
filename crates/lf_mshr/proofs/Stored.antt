-- The bytes that the stores of each register write, as targets come and go.
use Rattle.std.proofs.Common.{◌≡◌, ℕ, ◌<◌, Bool, true, ◌==◌, List, [], ◌∷◌, ◌++◌, cond, inl, inr}
use Rattle.std.proofs.Common.{refl, sym, ap, ◌∙◌, subst, arith, eq-eqb, ne_eqb, set, replicate, bit_or, slice_index}
use Rattle.std.proofs.lemmas.Bool.{cases_eq}
use Rattle.std.proofs.lemmas.List.{length-set, get_or-set_same, get_or-set_other, get_or-replicate, length-replicate}
use Rattle.std.proofs.lemmas.List.{append-nil}
use Rattle.std.proofs.lemmas.List.Elements.{filter-append}
use Rattle.std.proofs.lemmas.List.Sums.{fold-append}
use Rattle.lf_rules.specs.declared.mask.Mask.{Mask}
use Rattle.lf_rules.specs.Registers.{Held, holds_in, targets_of, released}
use Rattle.lf_rules.specs.Sharing.{HoldsOnce}
use Rattle.lf_mshr.specs.Index.{IsIndexed, IsStored, held_in, stored_bytes}
use Rattle.lf_mshr.specs.RegisterFile.{store_mask}
use Rattle.lf_mshr.proofs.Indexed.{held_in-found, held_in-left}

module _ {T : Type 0} (is_store : T → Bool) (bytes : T → Mask) (registers : ℕ) where
  abbrev mask : T → ℕ
  mask = store_mask is_store bytes

  abbrev stored : List (Held T) → ℕ
  stored = stored_bytes is_store bytes

  -- nothing is held
  pub IsStored-empty : IsStored is_store bytes registers (replicate registers 0) []
  IsStored-empty = record {
    long = length-replicate registers 0;
    stored = λ r below. get_or-replicate registers r 0 0 below;
  }

  module _ (stores : List ℕ) (held : List (Held T)) (is : IsStored is_store bytes registers stores held) where
    -- a target comes to a register
    pub IsStored-push : (h : Held T) → h.register < registers
        → IsStored is_store bytes registers (set stores h.register (bit_or (slice_index stores h.register)
        (mask h.target))) (held ++ h ∷ [])
    IsStored-push h there = record {
      long = length-set stores h.register (bit_or (slice_index stores h.register) (mask h.target)) ∙ is.long;
      stored = λ r below. elim (cases_eq h.register r) [
        | inl e ↦ subst (λ k. slice_index (set stores h.register (bit_or (slice_index stores h.register)
            (mask h.target))) k ≡ stored (held_in (held ++ h ∷ []) k)) e
            (get_or-set_same stores h.register (bit_or (slice_index stores h.register) (mask h.target)) 0
            (let l = is.long in omega (arith, there, l))
            ∙ ap (λ n. bit_or n (mask h.target)) (is.stored h.register there)
            ∙ sym (ap stored (filter-append (λ g. g.register == h.register) held (h ∷ [])
            ∙ ap (λ b. held_in held h.register ++ cond b (h ∷ []) []) (eq-eqb h.register h.register refl))
            ∙ fold-append (λ n g. bit_or n (mask g.target)) 0 (held_in held h.register) (h ∷ [])))
        | inr ne ↦
            get_or-set_other stores h.register r (bit_or (slice_index stores h.register) (mask h.target)) 0
            (λ x. ne (sym x)) ∙ is.stored r below
            ∙ sym (ap stored (filter-append (λ g. g.register == r) held (h ∷ [])
            ∙ ap (λ b. held_in held r ++ cond b (h ∷ []) []) (ne_eqb h.register r ne)
            ∙ append-nil (held_in held r)))
      ];
    }

    module _ (used : ℕ) (blocks : List ℕ) (index : IsIndexed registers used blocks held) (at block : ℕ)
        (there : at < registers) (has : holds_in held at block ≡ true) (once : HoldsOnce held) where
      -- the register that holds the block has the bytes of its stores
      pub stored-found : slice_index stores at ≡ stored (targets_of held block)
      stored-found = is.stored at there
          ∙ ap stored (held_in-found registers used blocks held index at block there has once)

      -- a block leaves the register that holds it
      pub IsStored-released : IsStored is_store bytes registers (set stores at 0) (released held block)
      IsStored-released = record {
        long = length-set stores at 0 ∙ is.long;
        stored = λ r below.
            let left = ap stored (held_in-left registers used blocks held index at block there has once r below) in
            elim (cases_eq at r) [
              | inl e ↦
                  subst (λ k. slice_index (set stores at 0) k ≡ 0) e
                  (get_or-set_same stores at 0 0 (let l = is.long in omega (arith, there, l)))
                  ∙ sym (left ∙ ap (λ b. stored (cond b [] (held_in held r))) (eq-eqb at r e))
              | inr ne ↦
                  get_or-set_other stores at r 0 0 (λ x. ne (sym x)) ∙ is.stored r below
                  ∙ sym (left ∙ ap (λ b. stored (cond b [] (held_in held r))) (ne_eqb at r ne))
            ];
      }
