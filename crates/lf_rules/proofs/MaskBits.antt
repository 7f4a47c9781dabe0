-- Masks by their bits.
use Rattle.std.proofs.Common.{◌≡◌, ℕ, zero, suc, ◌+◌, ◌-◌, ◌*◌, ◌/◌, ◌%◌, ◌^◌, ◌<◌, ◌≤◌, min, max, Bool, true, false}
use Rattle.std.proofs.Common.{◌&&◌, ◌||◌}
use Rattle.std.proofs.Common.{◌==◌, List, get_or, inl, inr, refl, sym, ap, ◌∙◌, subst, eqb-true, eq-eqb, lt-ltb}
use Rattle.std.proofs.Common.{le-leb, arith}
use mathlib.Core.Path.{ap₂}
use Rattle.std.specs.Prelude.{bit_or, bit_and, slice_index, nat_le, nat_lt, nat_eq, IsTrue, ◌↔◌}
use Rattle.std.specs.Int.{bit_at}
use Rattle.std.specs.List.{range_with_len}
use Rattle.std.proofs.lemmas.Bool.{eqb-false, cases_Bool, cases_lt, lt-leb, le-ltb}
use Rattle.std.proofs.lemmas.List.Folds.{list_all_at}
use Rattle.std.proofs.lemmas.List.FromFn.{get_or-range_with_len, length-range_with_len}
use Rattle.std.proofs.Math.Nat.{mod-eq_of_lt}
use Rattle.std.proofs.Math.Pow.{pow_pos, pow_mono}
use Rattle.std.proofs.lemmas.Nat.{pow-add}
use Rattle.std.proofs.lemmas.Nat.Bits.{bit_at_or, bit_at_and, bit_at-lt, bit_at-zero, bit_at_cat_low, bit_at_cat_high}
use Rattle.std.proofs.lemmas.Nat.Bits.{bit_at_ones, bit_at_ones_above, ones_shr, same_from_bits}
use Rattle.lf_rules.specs.Address.{mask_of, is_under, Covers, agree_off}
use Rattle.lf_rules.proofs.Masks.{all_range}

ne_eqb : (a b : ℕ) → (a ≡ b → ⊥) → (a == b) ≡ false
ne_eqb a b apart = go (a == b) refl
  where
    go : (t : Bool) → (a == b) ≡ t → t ≡ false
    go true e = absurd (apart (eqb-true a b e))
    go false e = refl

-- ---- one run of bits

below_product : (p q n : ℕ) → 0 < p → 0 < q → p * q ≤ n → (p - 1) * q < n
below_product zero q n some more le = absurd (omega arith)
below_product (suc m) q n some more le = let e : suc m - 1 ≡ m = omega arith in
    subst (λ k. k * q < n) (sym e) (omega arith)

mask_fits : (offset size : ℕ) → offset + size ≤ 64 → mask_of offset size < 2 ^ 64
mask_fits offset size within =
    below_product (2 ^ size) (2 ^ offset) (2 ^ 64) (pow_pos size) (pow_pos offset)
    (subst (λ n. n ≤ 2 ^ 64) (pow-add 2 size offset) (pow_mono {j = 64} (omega arith)))

pub shifted_ones : (offset size : ℕ) → offset + size ≤ 64 →
    (2 ^ 64 - 1) / 2 ^ (64 - size) * 2 ^ offset % 2 ^ 64 ≡ mask_of offset size
shifted_ones offset size within =
    let rest : 64 - (64 - size) ≡ size = omega arith in
    let ones : (2 ^ 64 - 1) / 2 ^ (64 - size) ≡ 2 ^ size - 1 =
    ones_shr 64 (64 - size) (omega arith) ∙ ap (λ n. 2 ^ n - 1) rest in
    ap (λ n. n * 2 ^ offset % 2 ^ 64) ones ∙ mod-eq_of_lt (mask_fits offset size within)

with_zero : (n : ℕ) → n ≡ n + 0
with_zero n = omega arith

pub bits_of_mask : (k s i : ℕ) → is_under (mask_of k s) i ≡ (nat_le k i && nat_lt i (k + s))
bits_of_mask k s i =
    (elim (cases_lt i k) [
      | inl below ↦
          ap (λ n. n == 1) (ap (λ m. bit_at m i) (with_zero (mask_of k s)) ∙ bit_at_cat_low (2 ^ s - 1) k 0 i below
          ∙ bit_at-zero i)
          ∙ sym (ap (λ t. t && nat_lt i (k + s)) (lt-leb k i below))
      | inr from ↦
          let here : bit_at (mask_of k s) i ≡ bit_at (2 ^ s - 1) (i - k) =
          ap (λ m. bit_at m i) (with_zero (mask_of k s)) ∙ bit_at_cat_high (2 ^ s - 1) k 0 i (pow_pos k) from in
          (elim (cases_lt i (k + s)) [
            | inl within ↦ ap (λ n. n == 1) (here ∙ bit_at_ones s (i - k) (omega arith))
                ∙ sym (ap₂ (λ t u. t && u) (le-leb k i from) (lt-ltb i (k + s) within))
            | inr past ↦ ap (λ n. n == 1) (here ∙ bit_at_ones_above s (i - k) (omega arith))
                ∙ sym (ap₂ (λ t u. t && u) (le-leb k i from) (le-ltb i (k + s) past))
          ])
    ])

-- ---- union and inclusion

either_bit : (x y : ℕ) → x < 2 → y < 2 → (max x y == 1) ≡ (x == 1 || y == 1)
either_bit zero zero lx ly = refl
either_bit zero (suc zero) lx ly = refl
either_bit (suc zero) zero lx ly = refl
either_bit (suc zero) (suc zero) lx ly = refl
either_bit (suc (suc x)) y lx ly = absurd (omega arith)
either_bit x (suc (suc y)) lx ly = absurd (omega arith)

pub under_union : (a b i : ℕ) → is_under (bit_or a b) i ≡ (is_under a i || is_under b i)
under_union a b i = ap (λ n. n == 1) (bit_at_or a b i) ∙ either_bit (bit_at a i) (bit_at b i) (bit_at-lt a i)
    (bit_at-lt b i)

pub covers_by_and : (a b : ℕ) → IsTrue (nat_eq (bit_and a b) b) ↔ Covers a b
covers_by_and a b = (to, from)
  where
    to : IsTrue (nat_eq (bit_and a b) b) → Covers a b
    to e i under =
        let both : bit_at b i ≡ min (bit_at a i) (bit_at b i) =
        ap (λ n. bit_at n i) (sym (eqb-true (bit_and a b) b e)) ∙ bit_at_and a b i in
        let one : bit_at b i ≡ 1 = eqb-true (bit_at b i) 1 under in
        let small = bit_at-lt a i in
        eq-eqb (bit_at a i) 1 (omega arith)

    from : Covers a b → IsTrue (nat_eq (bit_and a b) b)
    from covers = eq-eqb (bit_and a b) b (same_from_bits (bit_and a b) b (λ i. bit_at_and a b i ∙ at i (bit_at-lt b i)))
      where
        at : (i : ℕ) → bit_at b i < 2 → min (bit_at a i) (bit_at b i) ≡ bit_at b i
        at i small =
            (elim (cases_Bool (is_under b i)) [
              | inl e ↦ let one = eqb-true (bit_at b i) 1 e in let other = eqb-true (bit_at a i) 1 (covers i e) in
                  omega arith
              | inr e ↦ let no' = eqb-false (bit_at b i) 1 e in grind arith
            ])

-- ---- agreement off a mask

pub agree_if_each : (xs ys : List ℕ) (mask n : ℕ) → ((k : ℕ) → k < n →
    (is_under mask k || slice_index xs k == slice_index ys k) ≡ true) → agree_off n xs ys mask ≡ true
agree_if_each xs ys mask n each = all_range (λ k. is_under mask k || slice_index xs k == slice_index ys k) 0 n
    (λ i le lt. each i (omega arith))

pub differ_if_one : (xs ys : List ℕ) (mask n i : ℕ) → i < n → (is_under mask i ≡ false) →
    (slice_index xs i ≡ slice_index ys i → ⊥) → agree_off n xs ys mask ≡ false
differ_if_one xs ys mask n i lt off apart =
    let p : ℕ → Bool = λ k. is_under mask k || slice_index xs k == slice_index ys k in
    let fails : p i ≡ false = ap₂ (λ s t. s || t) off (ne_eqb (slice_index xs i) (slice_index ys i) apart) in
    let len = length-range_with_len 0 n in
    let at : get_or (range_with_len 0 n) i 0 ≡ i = get_or-range_with_len 0 n i 0 lt ∙ omega arith in
    list_all_at p (range_with_len 0 n) i 0 (omega arith) (ap p at ∙ fails)
