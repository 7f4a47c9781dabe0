-- What places hold, each with its place, as places are taken and left.
use Rattle.std.proofs.Common.{◌≡◌, ℕ, Bool, true, false, cond, not, ◌&&◌, ◌||◌, ◌==◌, List, [], ◌∷◌, ◌++◌, refl, ap}
use Rattle.std.proofs.Common.{◌∙◌, eqb-true}
use Rattle.std.specs.List.{list_any, list_all}
use Rattle.std.proofs.lemmas.Bool.{and_parts, or_parts}
use Rattle.std.proofs.lemmas.List.Folds.{list_all-append}
use Rattle.lf_rules.specs.Registers.{Held, holds, released}
use Rattle.lf_mshr.specs.Places.{held_of, left_of}

module _ {T : Type 0} where
  pub held-push : (order : List (ℕ × Held T)) (q : ℕ × Held T) → held_of (order ++ q ∷ []) ≡ held_of order ++ q.1 ∷ []
  held-push [] q = refl
  held-push (p ∷ order) q = ap (λ (hs : List (Held T)). p.1 ∷ hs) (held-push order q)

  pub held-left : (order : List (ℕ × Held T)) (block : ℕ) →
      held_of (left_of order block) ≡ released (held_of order) block
  held-left [] block = refl
  held-left (p ∷ order) block = go (p.1.block == block) (held-left order block)
    where
      go : (b : Bool) → held_of (left_of order block) ≡ released (held_of order) block
          → held_of (cond (not b) (p ∷ left_of order block) (left_of order block))
          ≡ cond (not b) (p.1 ∷ released (held_of order) block) (released (held_of order) block)
      go true e = e
      go false e = ap (λ (hs : List (Held T)). p.1 ∷ hs) e

  -- what each place in use meets
  module _ (own : ℕ × Held T → Bool) where
    pub own-push : (order : List (ℕ × Held T)) (q : ℕ × Held T) → list_all own order ≡ true → own q ≡ true →
        list_all own (order ++ q ∷ []) ≡ true
    own-push order q e f = list_all-append own order (q ∷ []) ∙ ap (λ b. b && (own q && true)) e ∙ ap (λ b. b && true) f

    pub own-left : (order : List (ℕ × Held T)) (block : ℕ) → list_all own order ≡ true →
        list_all own (left_of order block) ≡ true
    own-left [] block e = e
    own-left (p ∷ order) block e = go (p.1.block == block) (own-left order block
        (and_parts (own p) (list_all own order) e).1)
      where
        go : (b : Bool) → list_all own (left_of order block) ≡ true →
            list_all own (cond (not b) (p ∷ left_of order block) (left_of order block)) ≡ true
        go true rest = rest
        go false rest = ap (λ b. b && list_all own (left_of order block)) (and_parts (own p) (list_all own order) e).0
            ∙ rest

  -- where each place is that of its item, items say which places are taken
  pub taken-held : (place_of : Held T → ℕ) (order : List (ℕ × Held T)) →
      list_all (λ q. q.0 == place_of q.1) order ≡ true
      → (place : ℕ) → list_any (λ q. q.0 == place) order ≡ list_any (λ h. place_of h == place) (held_of order)
  taken-held place_of [] e place = refl
  taken-held place_of (p ∷ order) e place =
      let parts = and_parts (p.0 == place_of p.1) (list_all (λ q. q.0 == place_of q.1) order) e in
      ap (λ k. k == place || list_any (λ (q : ℕ × Held T). q.0 == place) order) (eqb-true p.0 (place_of p.1) parts.0)
      ∙ ap (λ b. place_of p.1 == place || b) (taken-held place_of order parts.1 place)

  -- nothing leaves with a block that is not held
  pub left-none : (order : List (ℕ × Held T)) (block : ℕ) → holds (held_of order) block ≡ false →
      left_of order block ≡ order
  left-none [] block e = refl
  left-none (p ∷ order) block e =
      let parts = or_parts (p.1.block == block) (holds (held_of order) block) e in
      ap (λ b. cond (not b) (p ∷ left_of order block) (left_of order block)) parts.0
      ∙ ap (λ (qs : List (ℕ × Held T)). p ∷ qs) (left-none order block parts.1)
