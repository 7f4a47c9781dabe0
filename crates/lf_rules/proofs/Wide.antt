-- Blocks of a second-level block.
use Rattle.std.proofs.Common.{◌≡◌, ℕ, zero, suc, ◌+◌, ◌-◌, ◌*◌, ◌%◌, ◌<◌, ◌≤◌, Bool, true, false, ◌&&◌, ◌||◌, List}
use Rattle.std.proofs.Common.{◌++◌, length, take, drop, refl, sym, ap, ◌∙◌, subst, inl, inr, ◌^◌, get_or, arith}
use mathlib.Core.Path.{ap₂}
use Rattle.std.specs.List.{range_with_len, list_all, list_any, flat_map}
use Rattle.std.proofs.lemmas.Bool.{and_parts, cases_lt, cases_eq}
use Rattle.std.proofs.Math.Pow.{pow_pos}
use Rattle.std.proofs.lemmas.List.{get_or_past, append-nil, append_assoc, length-take-le, length-drop}
use Rattle.std.proofs.Math.Nat.{mul-le-mul_right}
use Rattle.lf_rules.specs.declared.mask.Mask.{Mask}
use Rattle.std.proofs.lemmas.Nat.{div-mul-add, div-add-mod'}
use Rattle.std.proofs.Math.Seq.{take-append_seam, drop-append-add}
use Rattle.lf_rules.specs.declared.shape.Shape.{Shape}
use Rattle.lf_rules.specs.Address.{second_of, place_of, sub_block, bank_of, part_at, clean_mask}

pub second_of_sub : (shape : Shape) (second place : ℕ) → place < shape.factor →
    second_of shape (sub_block shape second place) ≡ second
second_of_sub shape second place lt = div-mul-add second shape.factor place lt

pub sub_of_block : (shape : Shape) (block : ℕ) → sub_block shape (second_of shape block) (place_of shape block) ≡ block
sub_of_block shape block = div-add-mod' block shape.factor

pub bank_of_sub : (shape : Shape) (second place bank : ℕ) → place < shape.factor → second % shape.banks ≡ bank →
    bank_of shape (sub_block shape second place) ≡ bank
bank_of_sub shape second place bank lt home = ap (λ k. k % shape.banks) (second_of_sub shape second place lt) ∙ home

-- ---- lists over the places

pub all_same : (p q : ℕ → Bool) (a n : ℕ) → ((i : ℕ) → a ≤ i → i < a + n → p i ≡ q i) →
    list_all p (range_with_len a n) ≡ list_all q (range_with_len a n)
all_same p q a zero h = refl
all_same p q a (suc n) h = ap₂ (λ b c. b && c) (h a (omega arith) (omega arith))
    (all_same p q (a + 1) n (λ i le lt. h i (omega arith) (omega arith)))

pub all_at : (p : ℕ → Bool) (a n i : ℕ) → list_all p (range_with_len a n) ≡ true → a ≤ i → i < a + n → p i ≡ true
all_at p a zero i e le lt = absurd (omega arith)
all_at p a (suc n) i e le lt = go (i - a) refl (λ rest le lt. all_at p (a + 1) n i rest le lt)
  where
    parts : (p a ≡ true) × (list_all p (range_with_len (a + 1) n) ≡ true)
    parts = and_parts (p a) (list_all p (range_with_len (a + 1) n)) e

    go : (d : ℕ) → i - a ≡ d → (list_all p (range_with_len (a + 1) n) ≡ true → a + 1 ≤ i → i < a + 1 + n → p i ≡ true)
        → p i ≡ true
    go zero here rest = ap p (omega (arith, here)) ∙ parts.0
    go (suc d) here rest = rest parts.1 (omega (arith, here)) (omega (arith, here))

pub flat_same : {X : Type 0} (f g : ℕ → List X) (a n : ℕ) → ((i : ℕ) → a ≤ i → i < a + n → f i ≡ g i) →
    flat_map f (range_with_len a n) ≡ flat_map g (range_with_len a n)
flat_same f g a zero h = refl
flat_same f g a (suc n) h = ap₂ (λ xs ys. xs ++ ys) (h a (omega arith) (omega arith))
    (flat_same f g (a + 1) n (λ i le lt. h i (omega arith) (omega arith)))

-- one part of parts of one length
pub part_of_flat : (g : ℕ → List ℕ) (size : ℕ) → ((i : ℕ) → length (g i) ≡ size) → (a n j : ℕ) → j < n →
    part_at size (flat_map g (range_with_len a n)) j ≡ g (a + j)
part_of_flat g size long a zero j lt = absurd (omega arith)
part_of_flat g size long a (suc n) zero lt =
    ap (λ k. take size (drop k (g a ++ flat_map g (range_with_len (a + 1) n)))) none
    ∙ ap (λ k. take k (g a ++ flat_map g (range_with_len (a + 1) n))) (sym (long a))
    ∙ take-append_seam (g a) (flat_map g (range_with_len (a + 1) n)) ∙ ap g (omega arith)
  where
    none : 0 * size ≡ 0
    none = omega arith
part_of_flat g size long a (suc n) (suc j) lt =
    ap (take size) (ap (λ k. drop k (g a ++ flat_map g (range_with_len (a + 1) n)))
    (over ∙ ap (λ k. k + j * size) (sym (long a)))
    ∙ drop-append-add (g a) (flat_map g (range_with_len (a + 1) n)) (j * size))
    ∙ part_of_flat g size long (a + 1) n j (omega arith) ∙ ap g (omega arith)
  where
    over : suc j * size ≡ size + j * size
    over = omega arith

-- ---- masks that fit

pub mask_beyond : (ms : List Mask) (size : ℕ) → ((k : ℕ) → k < length ms → (get_or ms k clean_mask).0 < 2 ^ size) →
    (place : ℕ) → (get_or ms place clean_mask).0 < 2 ^ size
mask_beyond ms size fit place = (elim (cases_lt place (length ms)) [
  | inl lt ↦ fit place lt
  | inr ge ↦ subst (λ (m : Mask). m.0 < 2 ^ size) (sym (get_or_past ms place clean_mask ge)) (pow_pos size)
])

-- ---- whether any number of a range passes

pub any_at : (p : ℕ → Bool) (a n k : ℕ) → a ≤ k → k < a + n → p k ≡ true → true ≡ list_any p (range_with_len a n)
any_at p a zero k le lt e = absurd (omega arith)
any_at p a (suc n) k le lt e = (elim (cases_eq a k) [
  | inl same ↦ sym (ap (λ b. b || list_any p (range_with_len (a + 1) n)) (ap p same ∙ e))
  | inr apart ↦ either (p a) (any_at p (a + 1) n k (omega (arith, apart)) (omega arith) e)
])
  where
    either : (b : Bool) {c : Bool} → true ≡ c → true ≡ (b || c)
    either true e = refl
    either false e = e

pub none_at : (p : ℕ → Bool) (a n : ℕ) → ((i : ℕ) → a ≤ i → i < a + n → p i ≡ false) →
    false ≡ list_any p (range_with_len a n)
none_at p a zero h = refl
none_at p a (suc n) h = ap₂ (λ b c. b || c) (sym (h a (omega arith) (omega arith)))
    (none_at p (a + 1) n (λ i le lt. h i (omega arith) (omega arith)))

-- ---- one part more

pub flat_more : (f : ℕ → List ℕ) (a n : ℕ) → flat_map f (range_with_len a (n + 1)) ≡ flat_map f (range_with_len a n)
    ++ f (a + n)
flat_more f a zero = append-nil (f a) ∙ ap f (omega arith)
flat_more f a (suc n) =
    ap (λ k. flat_map f (range_with_len a k)) (over n)
    ∙ ap (λ xs. f a ++ xs) (flat_more f (a + 1) n ∙ ap (λ k. flat_map f (range_with_len (a + 1) n) ++ f k) (next a n))
    ∙ sym (append_assoc (f a) (flat_map f (range_with_len (a + 1) n)) (f (a + suc n)))
  where
    next : (a n : ℕ) → a + 1 + n ≡ a + suc n
    next a n = omega arith

    over : (n : ℕ) → suc n + 1 ≡ suc (n + 1)
    over n = omega arith

pub flat_next : (f : ℕ → List ℕ) (n : ℕ) → flat_map f (range_with_len 0 (n + 1)) ≡ flat_map f (range_with_len 0 n)
    ++ f n
flat_next f n = flat_more f 0 n ∙ ap (λ k. flat_map f (range_with_len 0 n) ++ f k) (zero_plus n)
  where
    zero_plus : (n : ℕ) → 0 + n ≡ n
    zero_plus n = omega arith

pub part_len : (xs : List ℕ) (size place factor : ℕ) → place < factor → length xs ≡ factor * size →
    length (part_at size xs place) ≡ size
part_len xs size place factor lt long =
    let reach : suc place * size ≤ factor * size = mul-le-mul_right size lt in
    let whole : suc place * size ≡ size + place * size = over place size in
    let rest = length-drop (place * size) xs in
    length-take-le size (drop (place * size) xs) (omega (arith, reach, whole, rest, long))
  where
    over : (p s : ℕ) → suc p * s ≡ s + p * s
    over p s = omega arith
