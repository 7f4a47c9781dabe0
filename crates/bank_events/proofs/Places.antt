-- The numbers of a shape: a second-level block has some blocks, and a block at most 64 bytes.
use Rattle.std.proofs.Common.{◌≡◌, ℕ, zero, suc, ◌<◌, ◌≤◌, ◌==◌, ◌||◌, ◌⊎◌, inl, inr, Bool, true, false, refl, arith}
use Rattle.std.proofs.Common.{eqb-true}
use Rattle.lf_rules.specs.Fits.{is_factor, is_block_size}

pub factor_some : (factor : ℕ) → is_factor factor ≡ true → 0 < factor
factor_some zero e = absurd (cc e)
factor_some (suc n) e = omega arith

either : (a b : Bool) → (a || b) ≡ true → (a ≡ true) ⊎ (b ≡ true)
either true b h = inl refl
either false b h = inr h

pub block_le : (n : ℕ) → is_block_size n ≡ true → n ≤ 64
block_le n h =
    elim (either (n == 8 || n == 16 || n == 32) (n == 64) h) [
      | inr last ↦ let e : n ≡ 64 = eqb-true n 64 last in omega arith
      | inl three ↦ elim (either (n == 8 || n == 16) (n == 32) three) [
        | inr third ↦ let e : n ≡ 32 = eqb-true n 32 third in omega arith
        | inl two ↦ elim (either (n == 8) (n == 16) two) [
          | inr second ↦ let e : n ≡ 16 = eqb-true n 16 second in omega arith
          | inl first ↦ let e : n ≡ 8 = eqb-true n 8 first in omega arith
        ]
      ]
    ]
