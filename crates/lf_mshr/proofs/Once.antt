-- No two registers hold one block, as targets come and go.
use Rattle.std.proofs.Common.{◌≡◌, ℕ, Bool, true, false, cond, not, ◌&&◌, ◌==◌, List, [], ◌∷◌, ◌++◌, ◌⊎◌, inl, inr}
use Rattle.std.proofs.Common.{refl, sym, ◌∙◌, subst, eqb-true}
use Rattle.std.proofs.lemmas.Bool.{and_parts, or_cases, both_ways, or_left, or_right}
use Rattle.lf_rules.specs.Registers.{Held, holds, holds_in, released}
use Rattle.lf_rules.specs.Sharing.{HoldsOnce}

module _ {T : Type 0} where
  pub holds_in_push : (held : List (Held T)) (h : Held T) (register block : ℕ) →
      holds_in (held ++ h ∷ []) register block ≡ true
      → (holds_in held register block ≡ true) ⊎ ((h.register ≡ register) × (h.block ≡ block))
  holds_in_push [] h register block e =
      (elim (or_cases (h.register == register && h.block == block) false e) [
        | inl x ↦ inr (
          eqb-true h.register register (and_parts (h.register == register) (h.block == block) x).0,
          eqb-true h.block block (and_parts (h.register == register) (h.block == block) x).1,
        )
        | inr x ↦ absurd (both_ways false refl x)
      ])
  holds_in_push (g ∷ held) h register block e =
      (elim (or_cases (g.register == register && g.block == block) (holds_in (held ++ h ∷ []) register block) e) [
        | inl x ↦ inl (or_left _ _ x)
        | inr x ↦ (elim (holds_in_push held h register block x) [ inl y ↦ inl (or_right _ _ y) | inr y ↦ inr y ])
      ])

  pub holds_from : (held : List (Held T)) (register block : ℕ) → holds_in held register block ≡ true →
      holds held block ≡ true
  holds_from [] register block e = e
  holds_from (g ∷ held) register block e =
      (elim (or_cases (g.register == register && g.block == block) (holds_in held register block) e) [
        | inl x ↦ or_left _ _ (and_parts (g.register == register) (g.block == block) x).1
        | inr x ↦ or_right _ _ (holds_from held register block x)
      ])

  pub released_holds : (held : List (Held T)) (gone register block : ℕ) →
      holds_in (released held gone) register block ≡ true → holds_in held register block ≡ true
  released_holds [] gone register block e = e
  released_holds (g ∷ held) gone register block e = go (g.block == gone) (released_holds held gone register block) e
    where
      go : (b : Bool) → (holds_in (released held gone) register block ≡ true → holds_in held register block ≡ true)
          → holds_in (cond (not b) (g ∷ released held gone) (released held gone)) register block ≡ true →
          holds_in (g ∷ held) register block ≡ true
      go true rest x = or_right _ _ (rest x)
      go false rest x =
          (elim (or_cases (g.register == register && g.block == block) (holds_in (released held gone) register block)
          x) [
            | inl y ↦ or_left _ _ y
            | inr y ↦ or_right _ _ (rest y)
          ])

  -- a further target is of a block that no register holds, or that its own register holds
  pub HoldsOnce-push : (held : List (Held T)) (h : Held T) →
      ((holds held h.block ≡ false) ⊎ (holds_in held h.register h.block ≡ true)) → HoldsOnce held →
      HoldsOnce (held ++ h ∷ [])
  HoldsOnce-push held h new once block register other x y =
      (elim (holds_in_push held h register block x) [
        | inl a ↦ (elim (holds_in_push held h other block y) [
          | inl b ↦ once block register other a b
          | inr b ↦ (elim new [
            | inl closed ↦ absurd (both_ways (holds held block) (subst (λ k. holds held k ≡ false) b.1 closed)
                (holds_from held register block a))
            | inr at ↦ once block register h.register a (subst (λ k. holds_in held h.register k ≡ true) b.1 at) ∙ b.0
          ])
        ])
        | inr a ↦ (elim (holds_in_push held h other block y) [
          | inl b ↦ (elim new [
            | inl closed ↦ absurd (both_ways (holds held block) (subst (λ k. holds held k ≡ false) a.1 closed)
                (holds_from held other block b))
            | inr at ↦ sym a.0 ∙ once block h.register other (subst (λ k. holds_in held h.register k ≡ true) a.1 at) b
          ])
          | inr b ↦ sym a.0 ∙ b.0
        ])
      ])

  pub HoldsOnce-released : (held : List (Held T)) (gone : ℕ) → HoldsOnce held → HoldsOnce (released held gone)
  HoldsOnce-released held gone once block register other x y =
      once block register other (released_holds held gone register block x) (released_holds held gone other block y)
