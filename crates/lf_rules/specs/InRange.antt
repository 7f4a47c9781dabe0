-- The numbers that a hierarchy may have.
use Rattle.std.specs.Prelude.{◌≡◌, ℕ, ◌≤◌, true}
use Rattle.lf_rules.specs.declared.shape.OrgShape.{OrgShape}
use Rattle.lf_rules.specs.declared.shape.OrgShape.TheVariants.{Implicit, Explicit, Inverted}
use Rattle.lf_rules.specs.declared.shape.Level.{Level}
use Rattle.lf_rules.specs.declared.shape.Shape.{Shape}
use Rattle.lf_rules.specs.Fits.{is_block_size, is_factor}

abbrev pub IsFrom : ℕ → ℕ → ℕ → Type 0
IsFrom low high n = (low ≤ n) × (n ≤ high)

abbrev pub IsOrganisation : OrgShape → Type 0
IsOrganisation (Implicit registers) = IsFrom 1 64 registers
IsOrganisation (Explicit registers entries) = IsFrom 1 64 registers × IsFrom 1 8 entries
IsOrganisation Inverted = Unit {0}

pub record IsLevel (level : Level) : Type 0 where
  pub sets : IsFrom 1 4096 level.sets
  pub ways : IsFrom 1 16 level.ways
  pub organisation : IsOrganisation level.organisation

pub record IsShape (shape : Shape) : Type 0 where
  pub ports : IsFrom 1 16 shape.ports
  pub banks : IsFrom 1 16 shape.banks
  pub block_size : is_block_size shape.block ≡ true
  pub tags : IsFrom 1 64 shape.tags
  pub factor : is_factor shape.factor ≡ true
  pub level1 : IsLevel shape.level1
  pub level2 : IsLevel shape.level2
