-- Tests at all places of a second-level block.
use Rattle.std.proofs.Common.{◌≡◌, ℕ, zero, suc, ◌<◌, Bool, true, false, not, ◌&&◌, ◌+◌, ◌||◌, refl, ap, ◌∙◌, arith}
use Rattle.std.specs.List.{range_with_len, list_all, list_any}
use Rattle.lf_rules.specs.Fits.{is_factor}

pub factor_some : (factor : ℕ) → is_factor factor ≡ true → 0 < factor
factor_some zero e = absurd (cc e)
factor_some (suc n) e = omega arith

pub all_apart : (p q : ℕ → Bool) (a n : ℕ) → (list_all (λ i. not (p i)) (range_with_len a n)
    && not (list_any q (range_with_len a n))) ≡ list_all (λ i. not (p i) && not (q i)) (range_with_len a n)
all_apart p q a zero = refl
all_apart p q a (suc n) = swap (p a) (q a) _ _ ∙ ap (λ b. (not (p a) && not (q a)) && b) (all_apart p q (a + 1) n)
  where
    swap : (x y all any : Bool) → ((not x && all) && not (y || any)) ≡ ((not x && not y) && (all && not any))
    swap true y all any = refl
    swap false true true any = refl
    swap false true false any = refl
    swap false false all any = refl
