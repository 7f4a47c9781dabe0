-- Two lists that are alike meet the same clauses, and stay alike.
use Rattle.std.proofs.Common.{◌≡◌, ℕ, Bool, true, false, cond, not, ◌&&◌, ◌||◌, ◌==◌, nat_lt, List, [], ◌∷◌, ◌++◌}
use Rattle.std.proofs.Common.{refl, ap, ◌∙◌, arith}
use Rattle.std.specs.Prelude.{count_by, filter}
use Rattle.std.specs.List.{list_any, range_with_len}
use Rattle.lf_rules.specs.declared.shape.OrgShape.{OrgShape}
use Rattle.lf_rules.specs.declared.shape.OrgShape.TheVariants.{Implicit, Explicit, Inverted}
use Rattle.lf_rules.specs.Registers.{Held, holds, is_free, holds_in, right_for_merge, takes, has_room, targets_of}
use Rattle.lf_rules.specs.Registers.{released, primary_clauses, merge_clauses}
use Rattle.lf_mshr.specs.Alike.{IsAlike, AreAlike}
use Rattle.lf_mshr.proofs.Counts.{count_cons}

any_same : (p q : ℕ → Bool) → ((n : ℕ) → p n ≡ q n) → (ns : List ℕ) → list_any p ns ≡ list_any q ns
any_same p q same [] = refl
any_same p q same (n ∷ ns) = ap (λ b. b || list_any p ns) (same n) ∙ ap (λ b. q n || b) (any_same p q same ns)

module _ {A B : Type 0} (R : A → B → Type 0) where
  -- a test that tells alike elements apart in nothing
  abbrev Same : (Held A → Bool) → (Held B → Bool) → Type 0
  Same p q = (x : Held A) (y : Held B) → IsAlike R x y → p x ≡ q y

  any_alike : (p : Held A → Bool) (q : Held B → Bool) → Same p q → (xs : List (Held A)) (ys : List (Held B)) →
      AreAlike R xs ys → list_any p xs ≡ list_any q ys
  any_alike p q same [] [] alike = refl
  any_alike p q same (x ∷ xs) (y ∷ ys) alike = ap (λ b. b || list_any p xs) (same x y alike.0)
      ∙ ap (λ b. q y || b) (any_alike p q same xs ys alike.1)
  any_alike p q same [] (y ∷ ys) alike = absurd alike
  any_alike p q same (x ∷ xs) [] alike = absurd alike

  count_alike : (p : Held A → Bool) (q : Held B → Bool) → Same p q → (xs : List (Held A)) (ys : List (Held B)) →
      AreAlike R xs ys → count_by p xs ≡ count_by q ys
  count_alike p q same [] [] alike = refl
  count_alike p q same (x ∷ xs) (y ∷ ys) alike =
      let here : cond {A = ℕ} (p x) 1 0 ≡ cond (q y) 1 0 = ap (λ b. cond {A = ℕ} b 1 0) (same x y alike.0) in
      let rest = count_alike p q same xs ys alike.1 in
      let left = count_cons p x xs in
      let right = count_cons q y ys in
      omega (arith, here, rest, left, right)
  count_alike p q same [] (y ∷ ys) alike = absurd alike
  count_alike p q same (x ∷ xs) [] alike = absurd alike

  filter_alike : (p : Held A → Bool) (q : Held B → Bool) → Same p q → (xs : List (Held A)) (ys : List (Held B)) →
      AreAlike R xs ys → AreAlike R (filter p xs) (filter q ys)
  filter_alike p q same [] [] alike = tt
  filter_alike p q same (x ∷ xs) (y ∷ ys) alike = at (p x) (q y) (same x y alike.0)
      (filter_alike p q same xs ys alike.1)
    where
      at : (a b : Bool) → a ≡ b → AreAlike R (filter p xs) (filter q ys) →
          AreAlike R (cond a (x ∷ filter p xs) (filter p xs)) (cond b (y ∷ filter q ys) (filter q ys))
      at true true e rest = (alike.0, rest)
      at false false e rest = rest
      at true false e rest = absurd (cc e)
      at false true e rest = absurd (cc e)
  filter_alike p q same [] (y ∷ ys) alike = absurd alike
  filter_alike p q same (x ∷ xs) [] alike = absurd alike

  pub AreAlike-push : (xs : List (Held A)) (ys : List (Held B)) (x : Held A) (y : Held B) → AreAlike R xs ys →
      IsAlike R x y → AreAlike R (xs ++ x ∷ []) (ys ++ y ∷ [])
  AreAlike-push [] [] x y alike new = (new, tt)
  AreAlike-push (w ∷ xs) (z ∷ ys) x y alike new = (alike.0, AreAlike-push xs ys x y alike.1 new)
  AreAlike-push [] (z ∷ ys) x y alike new = absurd alike
  AreAlike-push (w ∷ xs) [] x y alike new = absurd alike

  module _ (xs : List (Held A)) (ys : List (Held B)) (alike : AreAlike R xs ys) where
    pub holds-alike : (block : ℕ) → holds xs block ≡ holds ys block
    holds-alike block = any_alike (λ h. h.block == block) (λ h. h.block == block)
        (λ x y e. ap (λ n. n == block) e.block) xs ys alike

    pub is_free-alike : (register : ℕ) → is_free xs register ≡ is_free ys register
    is_free-alike register = ap not (any_alike (λ h. h.register == register) (λ h. h.register == register)
        (λ x y e. ap (λ n. n == register) e.register) xs ys alike)

    pub holds_in-alike : (register block : ℕ) → holds_in xs register block ≡ holds_in ys register block
    holds_in-alike register block =
        any_alike (λ h. h.register == register && h.block == block) (λ h. h.register == register && h.block == block)
        (λ x y e. ap (λ n. n == register && x.block == block) e.register
        ∙ ap (λ n. y.register == register && n == block) e.block) xs ys alike

    pub targets_of-alike : (block : ℕ) → AreAlike R (targets_of xs block) (targets_of ys block)
    targets_of-alike block = filter_alike (λ h. h.block == block) (λ h. h.block == block)
        (λ x y e. ap (λ n. n == block) e.block) xs ys alike

    pub released-alike : (block : ℕ) → AreAlike R (released xs block) (released ys block)
    released-alike block = filter_alike (λ h. not (h.block == block)) (λ h. not (h.block == block))
        (λ x y e. ap (λ n. not (n == block)) e.block) xs ys alike

    pub primary_clauses-alike : (organisation : OrgShape) (destinations block destination register : ℕ)
        → primary_clauses organisation destinations xs block destination register
        ≡ primary_clauses organisation destinations ys block destination register
    primary_clauses-alike organisation destinations block destination register =
        rw (holds-alike block, is_free-alike register)

    -- the positions of the targets agree too
    module _ (position : A → ℕ) (other : B → ℕ) (at_one : (a : A) (b : B) → R a b → position a ≡ other b) where
      pub takes-alike : (organisation : OrgShape) (register at : ℕ) →
          takes organisation position xs register at ≡ takes organisation other ys register at
      takes-alike (Implicit registers) register at =
          ap not (any_alike (λ h. h.register == register && position h.target == at)
          (λ h. h.register == register && other h.target == at)
          (λ x y e. ap (λ n. n == register && position x.target == at) e.register
          ∙ ap (λ n. y.register == register && n == at) (at_one x.target y.target e.target)) xs ys alike)
      takes-alike (Explicit registers entries) register at =
          ap (λ n. nat_lt n entries) (count_alike (λ h. h.register == register) (λ h. h.register == register)
          (λ x y e. ap (λ n. n == register) e.register) xs ys alike)
      takes-alike Inverted register at = is_free-alike register

      right_for_merge-alike : (organisation : OrgShape) (block destination register : ℕ)
          → right_for_merge organisation xs block destination register
          ≡ right_for_merge organisation ys block destination register
      right_for_merge-alike (Implicit registers) block destination register = holds_in-alike register block
      right_for_merge-alike (Explicit registers entries) block destination register = holds_in-alike register block
      right_for_merge-alike Inverted block destination register = refl

      pub merge_clauses-alike : (organisation : OrgShape) (destinations block destination at register : ℕ)
          → merge_clauses organisation destinations position xs block destination at register
          ≡ merge_clauses organisation destinations other ys block destination at register
      merge_clauses-alike organisation destinations block destination at register =
          rw (
            holds-alike block,
            right_for_merge-alike organisation block destination register,
            takes-alike
                organisation register at,
          )

      some_room-alike : (organisation : OrgShape) (registers block at : ℕ)
          → cond (holds xs block) (list_any (λ r. holds_in xs r block && takes organisation position xs r at)
          (range_with_len 0 registers)) (list_any (is_free xs) (range_with_len 0 registers))
          ≡ cond (holds ys block) (list_any (λ r. holds_in ys r block && takes organisation other ys r at)
          (range_with_len 0 registers)) (list_any (is_free ys) (range_with_len 0 registers))
      some_room-alike organisation registers block at =
          let joins : list_any (λ r. holds_in xs r block && takes organisation position xs r at)
          (range_with_len 0 registers) ≡ list_any
          (λ r. holds_in ys r block && takes organisation other ys r at) (range_with_len 0 registers) =
          any_same (λ r. holds_in xs r block && takes organisation position xs r at)
          (λ r. holds_in ys r block && takes organisation other ys r at)
          (λ r. ap (λ b. b && takes organisation position xs r at) (holds_in-alike r block)
          ∙ ap (λ b. holds_in ys r block && b) (takes-alike organisation r at)) (range_with_len 0 registers) in
          let starts : list_any (is_free xs) (range_with_len 0 registers)
          ≡ list_any (is_free ys) (range_with_len 0 registers) =
          any_same (is_free xs) (is_free ys) is_free-alike (range_with_len 0 registers) in
          ap (λ b. cond b (list_any (λ r. holds_in xs r block && takes organisation position xs r at)
          (range_with_len 0 registers))
          (list_any (is_free xs) (range_with_len 0 registers))) (holds-alike block)
          ∙ ap (λ b. cond (holds ys block) b (list_any (is_free xs) (range_with_len 0 registers))) joins
          ∙ ap (λ b. cond (holds ys block) (list_any (λ r. holds_in ys r block && takes organisation other ys r at)
          (range_with_len 0 registers)) b) starts

      pub has_room-alike : (organisation : OrgShape) (destinations block destination at : ℕ)
          → has_room organisation destinations position xs block destination at
          ≡ has_room organisation destinations other ys block destination at
      has_room-alike (Implicit registers) destinations block destination at =
          some_room-alike (Implicit registers) registers block at
      has_room-alike (Explicit registers entries) destinations block destination at =
          some_room-alike (Explicit registers entries) registers block at
      has_room-alike Inverted destinations block destination at =
          ap (λ b. nat_lt destination destinations && b) (is_free-alike destination)
