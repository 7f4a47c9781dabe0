-- Bytes of a block under a mask.
use Rattle.std.proofs.Common.{◌≡◌, ℕ, ◌+◌, ◌<◌, ◌≤◌, Bool, true, false, cond, ◌&&◌, ◌||◌, ◌==◌, List, [], ◌∷◌, ◌++◌}
use Rattle.std.proofs.Common.{ap, sym, ◌∙◌, refl, length, arith, slice_index, map, zero, suc, append-nil}
use mathlib.Core.Path.{ap₂}
use Rattle.std.specs.Prelude.{bytes_eq}
use Rattle.std.proofs.lemmas.List.{map-append}
use Rattle.std.proofs.lemmas.List.FromFn.{get_or-map-range_with_len, length-map-range_with_len}
use Rattle.std.proofs.lemmas.List.Elements.{filter-append}
use Rattle.std.specs.List.{range_with_len, filter, list_all}
use Rattle.lf_rules.specs.Address.{is_under, agree_off, masked}

pub range_more : (a n j : ℕ) → a + n ≡ j → range_with_len a (n + 1) ≡ range_with_len a n ++ j ∷ []
range_more a zero j e = ap (λ k. k ∷ []) (omega (arith, e))
range_more a (suc n) j e =
    let next : suc n + 1 ≡ suc (n + 1) = omega arith in
    ap (range_with_len a) next ∙ ap (λ (xs : List ℕ). a ∷ xs) (range_more (a + 1) n j (omega (arith, e)))

pub taken_more : (f : ℕ → ℕ) (p : ℕ → Bool) (i : ℕ) (xs ys : List ℕ) (y : ℕ) → p i ≡ true → ys ≡ xs ++ y ∷ [] → y ≡ f i
    → xs ≡ map f (filter p (range_with_len 0 i)) → ys ≡ map f (filter p (range_with_len 0 (i + 1)))
taken_more f p i xs ys y under pushed is taken =
    pushed ∙ ap (λ (zs : List ℕ). zs ++ y ∷ []) taken ∙ ap (λ z. map f (filter p (range_with_len 0 i)) ++ z ∷ []) is
    ∙ sym (ap (λ zs. map f (filter p zs)) (range_more 0 i i (omega arith))
    ∙ ap (map f) (filter-append p (range_with_len 0 i) (i ∷ []))
    ∙ map-append f (filter p (range_with_len 0 i)) (filter p (i ∷ []))
    ∙ ap (λ b. map f (filter p (range_with_len 0 i)) ++ map f (cond b (i ∷ []) [])) under)

pub passed_over : (f : ℕ → ℕ) (p : ℕ → Bool) (i : ℕ) (xs : List ℕ) → p i ≡ false →
    xs ≡ map f (filter p (range_with_len 0 i)) → xs ≡ map f (filter p (range_with_len 0 (i + 1)))
passed_over f p i xs off taken =
    taken ∙ sym (ap (λ zs. map f (filter p zs)) (range_more 0 i i (omega arith))
    ∙ ap (map f) (filter-append p (range_with_len 0 i) (i ∷ []))
    ∙ map-append f (filter p (range_with_len 0 i)) (filter p (i ∷ []))
    ∙ ap (λ b. map f (filter p (range_with_len 0 i)) ++ map f (cond b (i ∷ []) [])) off
    ∙ append-nil (map f (filter p (range_with_len 0 i))))

-- ---- a block's bytes

pub all_same : (p q : ℕ → Bool) (a n : ℕ) → ((i : ℕ) → a ≤ i → i < a + n → p i ≡ q i) →
    list_all p (range_with_len a n) ≡ list_all q (range_with_len a n)
all_same p q a zero same = refl
all_same p q a (suc n) same = ap₂ (λ b c. b && c) (same a (omega arith) (omega arith))
    (all_same p q (a + 1) n (λ i low high. same i (omega arith) (omega arith)))

pub filter_same_map : (f g : ℕ → ℕ) (p : ℕ → Bool) (a n : ℕ) → ((i : ℕ) → a ≤ i → i < a + n → f i ≡ g i) →
    map f (filter p (range_with_len a n)) ≡ map g (filter p (range_with_len a n))
filter_same_map f g p a zero same = refl
filter_same_map f g p a (suc n) same = go (p a) (filter_same_map f g p (a + 1) n
    (λ i low high. same i (omega arith) (omega arith)))
  where
    go : (b : Bool) → map f (filter p (range_with_len (a + 1) n)) ≡ map g (filter p (range_with_len (a + 1) n))
        → map f (cond b (a ∷ filter p (range_with_len (a + 1) n)) (filter p (range_with_len (a + 1) n)))
        ≡ map g (cond b (a ∷ filter p (range_with_len (a + 1) n)) (filter p (range_with_len (a + 1) n)))
    go true rest = ap₂ (λ x (xs : List ℕ). x ∷ xs) (same a (omega arith) (omega arith)) rest
    go false rest = rest

pub agrees_flat : (f : ℕ → ℕ) (xs : List ℕ) (mask n : ℕ) → length xs ≡ n
    → list_all (λ i. is_under mask i || slice_index xs i == f i) (range_with_len 0 (length xs))
    ≡ agree_off n xs (map f (range_with_len 0 n)) mask
agrees_flat f xs mask n long =
    ap (λ k. list_all (λ i. is_under mask i || slice_index xs i == f i) (range_with_len 0 k)) long
    ∙ all_same _ _ 0 n (λ i low high. ap (λ k. is_under mask i || slice_index xs i == k)
    (sym (get_or-map-range_with_len f 0 n i i 0 (omega arith) (omega arith))))

pub masked_flat : (f : ℕ → ℕ) (mask n : ℕ) → map f (filter (is_under mask) (range_with_len 0 n))
    ≡ masked (map f (range_with_len 0 n)) mask
masked_flat f mask n =
    filter_same_map f (slice_index (map f (range_with_len 0 n))) (is_under mask) 0 n
    (λ i low high. sym (get_or-map-range_with_len f 0 n i i 0 (omega arith) (omega arith)))
    ∙ ap (λ k. map (slice_index (map f (range_with_len 0 n))) (filter (is_under mask) (range_with_len 0 k)))
    (sym (length-map-range_with_len f 0 n))

pub fill_agrees : (f : ℕ → ℕ) (r : Bool) (xs ys : List ℕ) (m mask n : ℕ) →
    r ≡ list_all (λ i. is_under m i || slice_index xs i == f i) (range_with_len 0 (length xs))
    → xs ≡ ys → m ≡ mask → length ys ≡ n → r ≡ agree_off n ys (map f (range_with_len 0 n)) mask
fill_agrees f r xs ys m mask n is same stores long =
    is ∙ ap₂ (λ (zs : List ℕ) k. list_all (λ i. is_under k i || slice_index zs i == f i)
    (range_with_len 0 (length zs))) same stores ∙ agrees_flat f ys mask n long

pub evict_agrees : (f : ℕ → ℕ) (r : Bool) (xs ys zs ws : List ℕ) (mask n : ℕ) → r ≡ bytes_eq xs ys → xs ≡ zs →
    ys ≡ ws → ws ≡ map f (filter (is_under mask) (range_with_len 0 n))
    → r ≡ bytes_eq zs (masked (map f (range_with_len 0 n)) mask)
evict_agrees f r xs ys zs ws mask n is same told taken = is ∙ ap₂ bytes_eq same (told ∙ taken ∙ masked_flat f mask n)
