-- How much a register file may hold.
use Rattle.std.specs.Prelude.{◌≡◌, ℕ, ◌≤◌, ◌==◌, List, count_by}
use Rattle.lf_rules.specs.Registers.{Held}

-- there are only so many registers
abbrev pub IsBelow : {T : Type 0} → ℕ → List (Held T) → Type 0
IsBelow registers held = (register : ℕ) → registers ≤ register → count_by (λ h. h.register == register) held ≡ 0

-- there are only so many registers, and each holds at most so many targets
pub record IsWithin {T : Type 0} (registers most : ℕ) (held : List (Held T)) : Type 0 where
  pub few : (register : ℕ) → count_by (λ h. h.register == register) held ≤ most
  pub none : IsBelow registers held
