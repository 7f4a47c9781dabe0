-- A search for a block among the registers: a bit for each whose block it is, and of these the ones that are in use.
use Rattle.std.proofs.Common.{◌≡◌, ℕ, zero, suc, ◌+◌, ◌-◌, ◌*◌, ◌%◌, ◌^◌, ◌<◌, ◌≤◌, true, false, ◌&&◌, ◌==◌, List}
use Rattle.std.proofs.Common.{take, get_or-take, length-take-le, subst, slice_index}
use Rattle.std.proofs.Common.{length, inl, inr, min, bit_and, bit_or, refl, sym, ap, ◌∙◌, arith, eq-eqb, ne_eqb}
use Rattle.std.specs.Int.{bit_at, trailing_zeros, w64}
use Rattle.std.proofs.lemmas.Bool.{cases_eq, cases_lt, both_ways}
use Rattle.std.proofs.lemmas.Nat.Bits.{bit_at-trailing_zeros, bit_at_set_same, bit_at_set_other, bit_at-zero}
use Rattle.std.proofs.lemmas.Nat.{and_le_l}
use Rattle.std.proofs.lemmas.Nat.Bits.{bit_at_and, bit_at-lt}
use Rattle.lf_rules.specs.Address.{is_under}
use Rattle.lf_rules.specs.Registers.{Held, holds, holds_in}
use Rattle.lf_mshr.specs.Bounds.{IsBelow}
use Rattle.lf_mshr.specs.Index.{IsIndexed}
use Rattle.lf_mshr.proofs.Indexed.{holds_in-is, unheld}

-- a bit is set for each of the first blocks that is this one
pub record AreMarks (blocks : List ℕ) (block count marks : ℕ) : Type 0 where
  pub seen : (at : ℕ) → at < count → is_under marks at ≡ (slice_index blocks at == block)
  pub unseen : (at : ℕ) → count ≤ at → is_under marks at ≡ false

module _ (blocks : List ℕ) (block : ℕ) where
  pub marks-none : AreMarks blocks block 0 0
  marks-none = record {
    seen = λ at lt. absurd (omega (arith, lt));
    unseen = λ at le. ap (λ n. n == 1) (bit_at-zero at);
  }

  module _ (count marks : ℕ) (are : AreMarks blocks block count marks) where
    pub marks-other : (slice_index blocks count ≡ block → ⊥) → AreMarks blocks block (count + 1) marks
    marks-other ne = record {
      seen = λ at lt. elim (cases_eq at count) [
        | inl e ↦ are.unseen at (omega (arith, e))
            ∙ sym (subst (λ k. (slice_index blocks k == block) ≡ false) (sym e)
            (ne_eqb (slice_index blocks count) block ne))
        | inr other ↦ are.seen at (omega (arith, lt, other))
      ];
      unseen = λ at le. are.unseen at (omega (arith, le));
    }

    pub marks-one : count < 64 → slice_index blocks count ≡ block →
        AreMarks blocks block (count + 1) (bit_or marks (1 * 2 ^ count % 2 ^ 64))
    marks-one low is = record {
      seen = λ at lt. elim (cases_eq at count) [
        | inl e ↦ subst (λ k. is_under (bit_or marks (1 * 2 ^ count % 2 ^ 64)) k ≡ (slice_index blocks k == block))
            (sym e) (ap (λ n. n == 1) (bit_at_set_same w64 marks count low)
            ∙ sym (eq-eqb (slice_index blocks count) block is))
        | inr other ↦ ap (λ n. n == 1) (bit_at_set_other w64 marks count low at other)
            ∙ are.seen at (omega (arith, lt, other))
      ];
      unseen = λ at le. ap (λ n. n == 1) (bit_at_set_other w64 marks count low at (λ e. omega (arith, le, e)))
          ∙ are.unseen at (omega (arith, le));
    }

min_one : (a b : ℕ) → a < 2 → b < 2 → (min a b == 1) ≡ ((b == 1) && (a == 1))
min_one zero zero l m = refl
min_one zero (suc zero) l m = refl
min_one (suc zero) zero l m = refl
min_one (suc zero) (suc zero) l m = refl
min_one (suc (suc a)) b l m = absurd (omega (arith, l))
min_one zero (suc (suc b)) l m = absurd (omega (arith, m))
min_one (suc zero) (suc (suc b)) l m = absurd (omega (arith, m))

both_under : (a b at : ℕ) → is_under (bit_and a b) at ≡ (is_under b at && is_under a at)
both_under a b at =
    ap (λ n. n == 1) (bit_at_and a b at) ∙ min_one (bit_at a at) (bit_at b at) (bit_at-lt a at) (bit_at-lt b at)

module _ {T : Type 0} (registers used : ℕ) (blocks : List ℕ) (held : List (Held T))
    (index : IsIndexed registers used blocks held) (block marks count : ℕ) (shown : List ℕ) (same : shown ≡ blocks)
    (few : count ≤ 64) (last : 0 < count → is_under used (count - 1) ≡ true)
    (behind : (r : ℕ) → count ≤ r → is_under used r ≡ false) where
  -- the last register in use is one of those that there are
  count-le : count ≤ registers
  count-le = elim (cases_lt registers count) [
    | inl lt ↦ absurd (both_ways (is_under used (count - 1))
        (index.no_others (count - 1) (omega (arith, lt)) (omega (arith, lt, few))) (last (omega (arith, lt))))
    | inr le ↦ le
  ]

  pub shown-long : count ≡ length (take count shown)
  shown-long =
      let long = index.long in
      sym (length-take-le count shown (omega (arith, count-le, long, ap length same)))

  module _ (are : (r : ℕ) → r < length (take count shown) → is_under marks r
      ≡ (slice_index (take count shown) r == block)) where
    abbrev holding : ℕ
    holding = bit_and marks used

    of_block : (r : ℕ) → r < count → is_under marks r ≡ (slice_index blocks r == block)
    of_block r lt =
        are r (omega (arith, lt, shown-long))
        ∙ ap (λ x. x == block) (get_or-take count shown r 0 lt ∙ ap (λ xs. slice_index xs r) same)

    under_is : (r : ℕ) → r < registers → is_under holding r ≡ holds_in held r block
    under_is r below = elim (cases_lt r count) [
      | inl lt ↦ both_under marks used r ∙ ap (λ b. is_under used r && b) (of_block r lt)
          ∙ holds_in-is registers used blocks held index r block below
      | inr le ↦
          let none = behind r le in
          both_under marks used r ∙ ap (λ b. b && is_under marks r) none
          ∙ sym (ap (λ b. b && slice_index blocks r == block) none)
          ∙ holds_in-is registers used blocks held index r block below
    ]

    pub found-none : IsBelow registers held → holding ≡ 0 → holds held block ≡ false
    found-none below none = unheld registers held below block
        (λ r lt. sym (under_is r lt) ∙ ap (λ n. is_under n r) none ∙ ap (λ n. n == 1) (bit_at-zero r))

    module _ (some : holding ≡ 0 → ⊥) (fits : marks < 2 ^ 64) where
      abbrev lowest : ℕ
      lowest = trailing_zeros w64 holding

      bit : (lowest < 64) × (bit_at holding lowest ≡ 1) × ((i : ℕ) → i < lowest → bit_at holding i ≡ 0)
      bit = bit_at-trailing_zeros w64 holding (omega (arith, some)) (omega (arith, fits, and_le_l marks used))

      is_set : is_under holding lowest ≡ true
      is_set = ap (λ n. n == 1) bit.1

      pub found-below : lowest < registers
      found-below = elim (cases_lt lowest registers) [
        | inl lt ↦ lt
        | inr le ↦ absurd (both_ways (is_under holding lowest) (both_under marks used lowest
            ∙ ap (λ b. b && is_under marks lowest) (index.no_others lowest le bit.0)) is_set)
      ]

      pub found-holds : holds_in held lowest block ≡ true
      found-holds = sym (under_is lowest found-below) ∙ is_set
