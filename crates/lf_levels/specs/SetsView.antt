-- The sets of a level of a bank, as contracts see them.
use Rattle.std.specs.Prelude.{ℕ}

pub record SetsView : Type 0 where
  pub banks : ℕ
  pub factor : ℕ  -- how many first-level blocks a block of level two has
  pub count : ℕ
