-- Bits of words: one is set or cleared while the others stay, and the last that is set.
use Rattle.std.proofs.Common.{◌≡◌, ◌≢◌, ℕ, suc, true, false, ◌+◌, ◌-◌, ◌≤◌, ◌*◌, ◌/◌, ◌%◌, ◌^◌, ◌<◌, ◌||◌, ◌&&◌, ◌==◌}
use Rattle.std.proofs.Common.{not, List, length, inl, inr}
use Rattle.std.proofs.Common.{sym, ap, ◌∙◌, arith, eq-eqb, ne_eqb, set, slice_index, bit_and, bit_or}
use native.Mathlib.Nat.{pow-suc}
use Rattle.std.specs.Int.{bit_at, bit_not, w64}
use Rattle.std.specs.Int.Count.{count_leading_zeros, leading_of_zero}
use Rattle.std.proofs.lemmas.Nat.{leading_length, leading_top}
use Rattle.std.proofs.lemmas.Nat.Bits.{bit_at_above, bit_at_cat_high}
use Rattle.std.proofs.lemmas.Bool.{cases_eq}
use Rattle.std.proofs.lemmas.Grind.{get_or-set_at}
use Rattle.std.proofs.lemmas.List.{get_or-set_other}
use Rattle.std.proofs.lemmas.Nat.Bits.{bit_at_set_same, bit_at_set_other, bit_at_clear_same, bit_at_clear_other}
use Rattle.lf_rules.specs.Address.{is_under}
use Rattle.lf_mshr.specs.Places.{is_marked}

module _ (words : List ℕ) (bit : ℕ) (there : bit < 64 * length words) where
  old : ℕ
  old = slice_index words (bit / 64)

  same_word : (new b : ℕ) → b / 64 ≡ bit / 64 → is_marked (set words (bit / 64) new) b ≡ is_under new (b % 64)
  same_word new b e = ap (λ w. is_under w (b % 64)) (get_or-set_at words (bit / 64) (b / 64) new 0 e
      (omega (arith, there)))

  other_word : (new b : ℕ) → b / 64 ≢ bit / 64 → is_marked (set words (bit / 64) new) b ≡ is_marked words b
  other_word new b ne = ap (λ w. is_under w (b % 64)) (get_or-set_other words (bit / 64) (b / 64) new 0 ne)

  own_word : (b : ℕ) → b / 64 ≡ bit / 64 → is_under (slice_index words (bit / 64)) (b % 64) ≡ is_marked words b
  own_word b e = ap (λ k. is_under (slice_index words k) (b % 64)) (sym e)

  pub marked-is : (b : ℕ) → is_marked (set words (bit / 64)
      (bit_or (slice_index words (bit / 64)) (1 * 2 ^ (bit % 64) % 2 ^ 64))) b ≡ (b == bit || is_marked words b)
  marked-is b =
      let new = bit_or (slice_index words (bit / 64)) (1 * 2 ^ (bit % 64) % 2 ^ 64) in
      elim (cases_eq (b / 64) (bit / 64)) [
        | inl e ↦ elim (cases_eq (b % 64) (bit % 64)) [
          | inl f ↦
              same_word new b e ∙ ap (is_under new) f ∙ ap (λ n. n == 1)
              (bit_at_set_same w64 (slice_index words (bit / 64)) (bit % 64) (omega arith))
              ∙ sym (ap (λ t. t || is_marked words b) (eq-eqb b bit (omega (arith, e, f))))
          | inr ne ↦
              same_word new b e ∙ ap (λ n. n == 1) (bit_at_set_other w64 (slice_index words (bit / 64)) (bit % 64)
              (omega arith) (b % 64) ne) ∙ own_word b e
              ∙ sym (ap (λ t. t || is_marked words b) (ne_eqb b bit (λ x. ne (ap (λ k. k % 64) x))))
        ]
        | inr ne ↦ other_word new b ne ∙ sym (ap (λ t. t || is_marked words b)
            (ne_eqb b bit (λ x. ne (ap (λ k. k / 64) x))))
      ]

  pub unmarked-is : (b : ℕ) → is_marked (set words (bit / 64)
      (bit_and (slice_index words (bit / 64)) (bit_not w64 (1 * 2 ^ (bit % 64) % 2 ^ 64)))) b
      ≡ (not (b == bit) && is_marked words b)
  unmarked-is b =
      let new = bit_and (slice_index words (bit / 64)) (bit_not w64 (1 * 2 ^ (bit % 64) % 2 ^ 64)) in
      elim (cases_eq (b / 64) (bit / 64)) [
        | inl e ↦ elim (cases_eq (b % 64) (bit % 64)) [
          | inl f ↦
              same_word new b e ∙ ap (is_under new) f ∙ ap (λ n. n == 1)
              (bit_at_clear_same w64 (slice_index words (bit / 64)) (bit % 64) (omega arith))
              ∙ sym (ap (λ t. not t && is_marked words b) (eq-eqb b bit (omega (arith, e, f))))
          | inr ne ↦
              same_word new b e ∙ ap (λ n. n == 1) (bit_at_clear_other w64 (slice_index words (bit / 64)) (bit % 64)
              (omega arith) (b % 64) (omega arith) ne) ∙ own_word b e
              ∙ sym (ap (λ t. not t && is_marked words b) (ne_eqb b bit (λ x. ne (ap (λ k. k % 64) x))))
        ]
        | inr ne ↦ other_word new b ne ∙ sym (ap (λ t. not t && is_marked words b)
            (ne_eqb b bit (λ x. ne (ap (λ k. k / 64) x))))
      ]

-- the highest bit of a number is set
top_bit : (n j : ℕ) → 2 ^ j ≤ n → n < 2 ^ suc j → is_under n j ≡ true
top_bit n j low high =
    let whole : n ≡ 1 * 2 ^ j + (n - 2 ^ j) = omega (arith, low) in
    let rest : n - 2 ^ j < 2 ^ j = omega (arith, low, high, pow-suc 2 j) in
    let first : j - j ≡ 0 = omega arith in
    ap (λ k. is_under k j) whole
    ∙ ap (λ k. k == 1) (bit_at_cat_high 1 j (n - 2 ^ j) j rest (omega arith) ∙ ap (bit_at 1) first)

module _ (word : ℕ) (fits : word < 2 ^ 64) where
  pub reach-last : 0 < 64 - count_leading_zeros 64 word → is_under word (64 - count_leading_zeros 64 word - 1) ≡ true
  reach-last some =
      let positive : 0 < word = elim (cases_eq word 0) [
        | inl none ↦ absurd (omega (arith, some, ap (count_leading_zeros 64) none ∙ leading_of_zero 64))
        | inr other ↦ omega (arith, other)
      ] in
      let top = leading_top 64 word positive fits in
      let at : 64 - count_leading_zeros 64 word - 1 ≡ top.0 = omega (arith, top.1) in
      ap (is_under word) at ∙ top_bit word top.0 top.2 top.3

  pub reach-behind : (bit : ℕ) → 64 - count_leading_zeros 64 word ≤ bit → is_under word bit ≡ false
  reach-behind bit le =
      let top = leading_length 64 word fits in
      ap (λ n. n == 1) (bit_at_above word top.0 bit top.2 (omega (arith, top.1, le)))
