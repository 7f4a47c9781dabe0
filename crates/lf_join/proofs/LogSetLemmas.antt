-- The bits of a set of logs.
use Rattle.std.proofs.Common.{◌≡◌, ◌≢◌, ℕ, ◌*◌, ◌%◌, ◌^◌, ◌<◌, Bool, true, false, ◌==◌, bit_and, bit_or, sym, ap, ◌∙◌}
use Rattle.std.proofs.Common.{arith}
use Rattle.std.specs.Int.{bit_at, bit_not, trailing_zeros, w32}
use Rattle.std.proofs.lemmas.Nat.Bits.{bit_at-zero, bit_at-trailing_zeros, bit_at_set_same, bit_at_set_other}
use Rattle.std.proofs.lemmas.Nat.Bits.{bit_at_clear_same, bit_at_clear_other}
use Rattle.lf_join.specs.declared.log_set.LogSet.{LogSet}
use Rattle.lf_join.specs.LogSets.{has, IsEmpty, IsLowest, Changes, IsSetBelow, IsSetNotAbove}

abbrev set_of : ℕ → LogSet
set_of bits = record { 0 = bits }

pub empty_set : IsEmpty (set_of 0)
unfolding has
empty_set log lt = ap (λ b. b == 1) (bit_at-zero log)

pub lowest_is : (bits : ℕ) → 0 < bits → bits < 2 ^ 32 → IsLowest (set_of bits) (trailing_zeros w32 bits)
unfolding has
lowest_is bits some fits =
    let at = bit_at-trailing_zeros w32 bits some fits in
    record { is_log = at.0; member = ap (λ b. b == 1) at.1; none_below = λ other lt. ap (λ b. b == 1) (at.2 other lt) }

pub inserted : (bits log : ℕ) → log < 32 → Changes (set_of bits) (set_of (bit_or bits (1 * 2 ^ log % 2 ^ 32))) log true
unfolding has
inserted bits log lt = record {
  this = ap (λ b. b == 1) (bit_at_set_same w32 bits log lt);
  others = λ other in_set apart. ap (λ b. b == 1) (bit_at_set_other w32 bits log lt other apart);
}

pub removed : (bits log : ℕ) → log < 32 → Changes (set_of bits)
    (set_of (bit_and bits (bit_not w32 (1 * 2 ^ log % 2 ^ 32)))) log false
unfolding has
removed bits log lt = record {
  this = ap (λ b. b == 1) (bit_at_clear_same w32 bits log lt);
  others = λ other in_set apart. ap (λ b. b == 1) (bit_at_clear_other w32 bits log lt other in_set apart);
}

pub below_without : (old new : LogSet) (log : ℕ) → has old log ≡ true → has new log ≡ false → IsSetNotAbove new old →
    IsSetBelow new old
unfolding has
below_without old new log member gone not_above =
    let apart : new.0 ≢ old.0 = λ same. true_false (bit_at old.0 log == 1) member
    (ap (λ b. bit_at b log == 1) (sym same) ∙ gone) in
    omega (arith, apart, not_above)
  where
    true_false : (b : Bool) → b ≡ true → b ≡ false → ⊥
    true_false b t f = cc
