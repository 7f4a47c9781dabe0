-- What each element of a list gives, where each gives something.
use Rattle.std.proofs.Common.{◌≡◌, ℕ, zero, suc, ◌<◌, List, [], ◌∷◌, length, get_or, Option, Some, None, IsSome}
use Rattle.std.proofs.Common.{refl, ap, ◌∙◌, arith}
use Rattle.std.specs.List.{All, filter_map, cons_option, slice_get}
use Rattle.std.proofs.lemmas.Bool.{false≢true}

cons_length : {Y : Type 0} (o : Option Y) (ys : List Y) → IsSome o → length (cons_option o ys) ≡ suc (length ys)
cons_length None ys h = absurd (false≢true h)
cons_length (Some y) ys h = refl

cons_first : {Y : Type 0} (o : Option Y) (ys : List Y) → IsSome o → slice_get (cons_option o ys) 0 ≡ o
cons_first None ys h = absurd (false≢true h)
cons_first (Some y) ys h = refl

cons_later : {Y : Type 0} (o : Option Y) (n : ℕ) (ys : List Y) → IsSome o →
    slice_get (cons_option o ys) (suc n) ≡ slice_get ys n
cons_later None n ys h = absurd (false≢true h)
cons_later (Some y) n ys h = refl

module _ {X Y : Type 0} (f : X → Option Y) where
  pub length_found : (xs : List X) → All (λ x. IsSome (f x)) xs → length (filter_map f xs) ≡ length xs
  length_found [] all = refl
  length_found (x ∷ xs) all = cons_length (f x) (filter_map f xs) (all 0 x (omega arith))
      ∙ ap suc (length_found xs (λ k d h. all (suc k) d (omega arith)))

  pub get_found : (xs : List X) (n : ℕ) (d : X) → All (λ x. IsSome (f x)) xs → n < length xs
      → slice_get (filter_map f xs) n ≡ f (get_or xs n d)
  get_found [] n d all inside = absurd (omega arith)
  get_found (x ∷ xs) zero d all inside = cons_first (f x) (filter_map f xs) (all 0 x (omega arith))
  get_found (x ∷ xs) (suc n) d all inside =
      cons_later (f x) n (filter_map f xs) (all 0 x (omega arith))
      ∙ get_found xs n d (λ k e h. all (suc k) e (omega arith)) (omega arith)

-- ---- what stands in a list

pub some_inside : {X : Type 0} (xs : List X) (at : ℕ) → at < length xs → IsSome (slice_get xs at)
some_inside [] at inside = absurd (omega arith)
some_inside (x ∷ xs) zero inside = refl
some_inside (x ∷ xs) (suc at) inside = some_inside xs at (omega arith)

pub one_inside : {X : Type 0} (xs : List X) (at : ℕ) → at < length xs → (x : X) × (slice_get xs at ≡ Some x)
one_inside [] at inside = absurd (omega arith)
one_inside (x ∷ xs) zero inside = (x, refl)
one_inside (x ∷ xs) (suc at) inside = one_inside xs at (omega arith)
