-- A function that has another value at one number.
use Rattle.std.proofs.Common.{◌≡◌, ◌≢◌, ℕ, true, false, ◌==◌, cond, refl, ap, subst, eqb-true, eq-eqb, ne_eqb}
use Rattle.lf_rules.specs.State.{update}

module _ {X : Type 0} (f : ℕ → X) (k : ℕ) (x : X) where
  pub update_same : update f k x k ≡ x
  update_same = ap (λ b. cond b x (f k)) (eq-eqb k k refl)

  pub update_other : (n : ℕ) → k ≢ n → update f k x n ≡ f n
  update_other n apart = ap (λ b. cond b x (f n)) (ne_eqb k n apart)

-- What holds of the new value at its number, and of the old ones at others, holds of each.
pub at_each : {X : Type 0} (P : ℕ → X → Type 0) (f : ℕ → X) (k : ℕ) (x : X) → P k x
    → ((n : ℕ) → (k == n) ≡ false → P n (f n)) → (n : ℕ) → P n (update f k x n)
at_each P f k x own others n = elim (k == n) as (λ b. (k == n) ≡ b → P n (cond b x (f n))) [
  | true ↦ λ e. subst (λ m. P m x) (eqb-true k n e) own
  | false ↦ λ e. others n e
] refl

-- likewise of two functions
pub at_each2 : {X Y : Type 0} (P : ℕ → X → Y → Type 0) (f : ℕ → X) (g : ℕ → Y) (k : ℕ) (x : X) (y : Y) → P k x y
    → ((n : ℕ) → (k == n) ≡ false → P n (f n) (g n)) → (n : ℕ) → P n (update f k x n) (update g k y n)
at_each2 P f g k x y own others n = elim (k == n) as (λ b. (k == n) ≡ b → P n (cond b x (f n)) (cond b y (g n))) [
  | true ↦ λ e. subst (λ m. P m x y) (eqb-true k n e) own
  | false ↦ λ e. others n e
] refl
