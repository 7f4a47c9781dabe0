-- An observer that is told once more.
use Rattle.std.proofs.Common.{◌≡◌, ℕ, suc, ◌+◌, ◌≤◌, List, [], ◌∷◌, ap, refl, subst, arith}
use Rattle.run_shrink.specs.Told.{WasTold, TellOf}

pub told_once_more : {O : Type 0} (tells : O → ℕ → ℕ → O → Type 0) (old before new : O) (calls : List (ℕ × ℕ))
    (n : ℕ) → WasTold tells old calls before → (left : ℕ) → tells before n left new →
    WasTold tells old ((n, left) ∷ calls) new
told_once_more tells old before new calls n was left told = (before, was, told)

pub tell_of_one_more : (events : ℕ) (calls : List (ℕ × ℕ)) (checks before told left : ℕ) →
    TellOf events calls checks before → told ≡ left → left ≤ before →
    TellOf events ((checks + 1, told) ∷ calls) (checks + 1) left
tell_of_one_more events calls checks before told left tell same fewer =
    (ap (λ (k : ℕ). (checks + 1, k)) same, checks, before, omega arith, fewer, tell)
