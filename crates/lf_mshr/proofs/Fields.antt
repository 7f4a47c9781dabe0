-- Registers with a field for each position, as targets come and go.
use Rattle.std.proofs.Common.{◌≡◌, ◌≢◌, ℕ, ◌+◌, ◌*◌, ◌||◌, refl, sym, ◌∙◌, eq-eqb, ◌<◌, Bool, true, not, ap, ◌&&◌}
use Rattle.std.proofs.Common.{◌==◌, List, [], ◌∷◌, ◌++◌, arith, ne_eqb, inl, inr}
use Rattle.std.specs.Prelude.{filter}
use Rattle.std.specs.List.{list_any}
use Rattle.std.proofs.lemmas.Bool.{cases_eq, not-true}
use Rattle.lf_rules.specs.Registers.{Held, is_free, takes}
use Rattle.lf_rules.specs.declared.shape.OrgShape.TheVariants.{Implicit}
use Rattle.lf_mshr.specs.Bounds.{IsBelow}
use Rattle.lf_mshr.proofs.Counts.{count_push_no, count_filter_le, none_both}

module _ {T : Type 0} (registers : ℕ) (held : List (Held T)) (below : IsBelow registers held) where
  pub IsBelow-push : (h : Held T) → h.register < registers → IsBelow registers (held ++ h ∷ [])
  IsBelow-push h exists r above =
      let ne : h.register ≢ r = omega arith in
      let same = count_push_no (λ g. g.register == r) held h (ne_eqb h.register r ne) in
      let was = below r above in
      omega (arith, same, was)

  pub IsBelow-filter : (q : Held T → Bool) → IsBelow registers (filter q held)
  IsBelow-filter q r above = let less = count_filter_le (λ h. h.register == r) q held in let was = below r above in
      omega (arith, less, was)

module _ {T : Type 0} (position : T → ℕ) (held : List (Held T)) where
  -- a free register has each of its fields
  pub takes-from_is_free : (registers register at : ℕ) → is_free held register ≡ true →
      takes (Implicit registers) position held register at ≡ true
  takes-from_is_free registers register at free =
      ap not (none_both (λ h. h.register == register) (λ h. position h.target == at) held
      (not-true (list_any (λ h. h.register == register) held) free))

module _ {T : Type 0} (position : T → ℕ) (eight : (t : T) → position t < 8) (register at : ℕ) (low : at < 8) where
  same_field : (h : Held T) → (h.register * 8 + position h.target == register * 8 + at)
      ≡ (h.register == register && position h.target == at)
  same_field h = elim (cases_eq h.register register) [
    | inl e ↦ elim (cases_eq (position h.target) at) [
      | inl f ↦
          eq-eqb (h.register * 8 + position h.target) (register * 8 + at) (omega (arith, e, f))
          ∙ sym (ap (λ b. b && position h.target == at) (eq-eqb h.register register e)
          ∙ eq-eqb (position h.target) at f)
      | inr ne ↦
          ne_eqb (h.register * 8 + position h.target) (register * 8 + at) (λ x. ne (omega (arith, e, x)))
          ∙ sym (ap (λ b. b && position h.target == at) (eq-eqb h.register register e)
          ∙ ne_eqb (position h.target) at ne)
    ]
    | inr ne ↦
        (let few = eight h.target in ne_eqb (h.register * 8 + position h.target) (register * 8 + at)
        (λ x. ne (omega (arith, x, few, low))))
        ∙ sym (ap (λ b. b && position h.target == at) (ne_eqb h.register register ne))
  ]

  -- a field's place is in use where its register has a target at its position
  pub field-taken : (held : List (Held T)) → list_any (λ h. h.register * 8 + position h.target == register * 8 + at)
      held ≡ list_any (λ h. h.register == register && position h.target == at) held
  field-taken [] = refl
  field-taken (h ∷ held) =
      ap (λ b. b || list_any (λ g. g.register * 8 + position g.target == register * 8 + at) held) (same_field h)
      ∙ ap (λ b. (h.register == register && position h.target == at) || b) (field-taken held)
