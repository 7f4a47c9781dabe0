-- What each change of a list leaves at a block.
use Rattle.std.proofs.Common.{◌≡◌, ℕ, Bool, true, false, cond, not, ◌||◌, ◌==◌, List, [], ◌∷◌, ◌++◌, Some, None}
use Rattle.std.proofs.Common.{is_some, refl, sym, ap, ◌∙◌, eqb-true}
use Rattle.std.specs.List.{list_any, filter}
use Rattle.lf_rules.specs.Lines.{line_at, has_line, with_line, without_line}
use Rattle.lf_levels.proofs.Entries.{line_put, line_gone}

pub has_put : {M : Type 0} (lines : List (ℕ × M)) (x : ℕ) (m : M) (y : ℕ) →
    has_line (with_line lines x m) y ≡ cond (x == y) true (has_line lines y)
has_put lines x m y = ap is_some (line_put lines x m y) ∙ elim (x == y)
    as (λ b. is_some (cond b (Some m) (line_at lines y)) ≡ cond b true (has_line lines y))
    [ true ↦ refl | false ↦ refl ]

pub has_gone : {M : Type 0} (lines : List (ℕ × M)) (x y : ℕ) →
    has_line (without_line lines x) y ≡ cond (x == y) false (has_line lines y)
has_gone lines x y = ap is_some (line_gone lines x y) ∙ elim (x == y)
    as (λ b. is_some (cond b None (line_at lines y)) ≡ cond b false (has_line lines y)) [ true ↦ refl | false ↦ refl ]

module _ {X : Type 0} (key : X → ℕ) where
  pub any_push : (xs : List X) (a : X) (y : ℕ) → list_any (λ x. key x == y) (xs ++ a ∷ [])
      ≡ cond (key a == y) true (list_any (λ x. key x == y) xs)
  any_push [] a y = elim (key a == y) as (λ b. (b || false) ≡ cond b true false) [ true ↦ refl | false ↦ refl ]
  any_push (x ∷ xs) a y = ap (λ b. (key x == y) || b) (any_push xs a y)
      ∙ swap (key x == y) (key a == y) (list_any (λ x. key x == y) xs)
    where
      swap : (p q r : Bool) → (p || cond q true r) ≡ cond q true (p || r)
      swap true true r = refl
      swap true false r = refl
      swap false q r = refl

  pub any_gone : (xs : List X) (x y : ℕ) → list_any (λ a. key a == y) (filter (λ a. not (key a == x)) xs)
      ≡ cond (x == y) false (list_any (λ a. key a == y) xs)
  any_gone [] x y = elim (x == y) as (λ b. false ≡ cond b false false) [ true ↦ refl | false ↦ refl ]
  any_gone (a ∷ xs) x y = go (key a == x) refl (any_gone xs x y)
    where
      go : (b : Bool) → (key a == x) ≡ b → list_any (λ a. key a == y) (filter (λ a. not (key a == x)) xs)
          ≡ cond (x == y) false (list_any (λ a. key a == y) xs)
          → list_any (λ a. key a == y) (cond (not b) (a ∷ filter (λ a. not (key a == x)) xs)
          (filter (λ a. not (key a == x)) xs)) ≡ cond (x == y) false
          ((key a == y) || list_any (λ a. key a == y) xs)
      go true e rest = rest ∙ same (x == y) refl
        where
          same : (c : Bool) → (x == y) ≡ c → cond c false (list_any (λ a. key a == y) xs)
              ≡ cond c false ((key a == y) || list_any (λ a. key a == y) xs)
          same true f = refl
          same false f = ap (λ d. d || list_any (λ a. key a == y) xs)
              (sym (ap (λ k. k == y) (eqb-true (key a) x e) ∙ f))
      go false e rest = ap (λ b. (key a == y) || b) rest ∙ other (x == y) refl
        where
          other : (c : Bool) → (x == y) ≡ c → ((key a == y) || cond c false (list_any (λ a. key a == y) xs))
              ≡ cond c false ((key a == y) || list_any (λ a. key a == y) xs)
          other true f = ap (λ k. (key a == k) || false) (sym (eqb-true x y f)) ∙ ap (λ d. d || false) e
          other false f = refl
