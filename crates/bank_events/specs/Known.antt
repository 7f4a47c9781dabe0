-- What a bank knows, block by block.
use Rattle.std.specs.Prelude.{ℕ, Bool, true, false, List}
use Rattle.lf_rules.specs.Address.{FlatMemory}
use Rattle.lf_rules.specs.Registers.{Held}
use Rattle.lf_rules.specs.State.{Request, Missed, Ready, Asked}
use Rattle.bank_cells.specs.declared.known.Fetch.{Fetch}
use Rattle.bank_cells.specs.declared.known.Fetch.TheVariants as fetch
use Rattle.bank_cells.specs.declared.known.First.{First}
use Rattle.bank_cells.specs.declared.known.First.TheVariants as level1
use Rattle.bank_cells.specs.declared.known.Second.{Second}
use Rattle.bank_cells.specs.declared.known.Second.TheVariants as level2

pub record Known : Type 0 where
  pub queue : ℕ → List Request  -- of each port, the oldest first
  pub ready : List Ready
  pub memory : FlatMemory
  pub first : ℕ → First  -- what level one has of each block
  pub written : ℕ → ℕ  -- the dirty mask of a block's line in level one, or the bytes of its waiting stores
  pub dirty : ℕ → ℕ  -- a block's mask in the line of level two
  pub second : ℕ → Second  -- what level two has of each second-level block
  pub counts1 : ℕ → ℕ  -- how many lines each set of level one has
  pub counts2 : ℕ → ℕ  -- and each of level two
  pub waiting : List (Held Missed)  -- the targets in level-one registers
  pub regs2 : List (Held Asked)  -- those in level-two registers

-- ---- level one

abbrev pub is_present : First → Bool
is_present level1.Absent = false
is_present (level1.InFlight register how) = false
is_present level1.Present = true

abbrev pub is_absent : First → Bool
is_absent level1.Absent = true
is_absent (level1.InFlight register how) = false
is_absent level1.Present = false

abbrev pub is_in_flight : First → Bool
is_in_flight level1.Absent = false
is_in_flight (level1.InFlight register how) = true
is_in_flight level1.Present = false

abbrev pub is_fetch_asked : Fetch → Bool
is_fetch_asked fetch.Asked = true
is_fetch_asked fetch.Missed = false
is_fetch_asked fetch.Supplied = false

abbrev pub is_fetch_missed : Fetch → Bool
is_fetch_missed fetch.Asked = false
is_fetch_missed fetch.Missed = true
is_fetch_missed fetch.Supplied = false

abbrev pub is_fetch_supplied : Fetch → Bool
is_fetch_supplied fetch.Asked = false
is_fetch_supplied fetch.Missed = false
is_fetch_supplied fetch.Supplied = true

-- level one asks for it
abbrev pub is_asking : First → Bool
is_asking level1.Absent = false
is_asking (level1.InFlight register how) = is_fetch_asked how
is_asking level1.Present = false

-- it is in a level-two register
abbrev pub is_missed : First → Bool
is_missed level1.Absent = false
is_missed (level1.InFlight register how) = is_fetch_missed how
is_missed level1.Present = false

-- level two supplied it
abbrev pub is_supplied : First → Bool
is_supplied level1.Absent = false
is_supplied (level1.InFlight register how) = is_fetch_supplied how
is_supplied level1.Present = false

-- the register of its primary miss, and 0 where it is not in flight
abbrev pub register_of : First → ℕ
register_of level1.Absent = 0
register_of (level1.InFlight register how) = register
register_of level1.Present = 0

-- ---- level two

abbrev pub is_second_present : Second → Bool
is_second_present level2.Absent = false
is_second_present (level2.InFlight register) = false
is_second_present level2.Present = true

abbrev pub is_second_in_flight : Second → Bool
is_second_in_flight level2.Absent = false
is_second_in_flight (level2.InFlight register) = true
is_second_in_flight level2.Present = false

abbrev pub second_register_of : Second → ℕ
second_register_of level2.Absent = 0
second_register_of (level2.InFlight register) = register
second_register_of level2.Present = 0
