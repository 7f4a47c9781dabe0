-- What is kept of the registers that are held.
use Rattle.std.specs.Prelude.{◌≡◌, ℕ, ◌<◌, ◌==◌, List, [], map, filter, Option, Some, None, unwrap_or, slice_get}
use Rattle.std.specs.Prelude.{length, slice_index, slice_index_or}
use Rattle.std.specs.Global.{Vec}
use Rattle.std.specs.BTreeMap.{BTreeMap, is_at}
use Rattle.std.specs.Map.{lookup}
use Rattle.std.specs.Ordering.{nat_cmp}
use Rattle.lf_rules.specs.Numbers.{times}
use Rattle.lf_stats.specs.declared.held.Times.{Times}
use Rattle.lf_stats.specs.Statistics.{distinct}

abbrev pub registers_of : List (ℕ × ℕ) → List ℕ
registers_of holds = map (λ h. h.1) holds

-- the registers that are held for the block
abbrev pub held_for : ℕ → List (ℕ × ℕ) → List ℕ
held_for block holds = registers_of (filter (λ h. h.0 == block) holds)

abbrev pub items_in : Option (Vec ℕ) → List ℕ
items_in None = []
items_in (Some registers) = registers.items

abbrev pub items_of : List (ℕ × Vec ℕ) → ℕ → List ℕ
items_of entries block = items_in (lookup (is_at (nat_cmp block)) entries)

abbrev pub items_at : BTreeMap ℕ (Vec ℕ) → ℕ → List ℕ
items_at by_block block = items_of by_block.entries block

-- a count is kept where it is not 0
abbrev pub IsCount : Option ℕ → ℕ → Type 0
IsCount None n = n ≡ 0
IsCount (Some k) n = (k ≡ n) × (0 < n)

-- how often each of these registers is named, and how many registers are
pub record AreTimesIn (entries : List (ℕ × ℕ)) (registers : List ℕ) : Type 0 where
  pub each : (register : ℕ) → IsCount (lookup (is_at (nat_cmp register)) entries) (times register registers)
  pub count : length entries ≡ distinct registers

abbrev pub AreTimes : Times → List ℕ → Type 0
AreTimes kept registers = AreTimesIn kept.0.entries registers

-- what is kept of the registers that are held: for each block those that its misses named, and how often each is named
pub record Holding : Type 0 where
  pub by_block : List (ℕ × Vec ℕ)
  pub times : List (ℕ × ℕ)

abbrev pub named : Holding → ℕ → ℕ
named held register = unwrap_or (lookup (is_at (nat_cmp register)) held.times) 0

-- what is kept tells of these blocks, each with a register that is held for it
pub record IsHeld (held : Holding) (holds : List (ℕ × ℕ)) : Type 0 where
  pub blocks : (block : ℕ) → items_of held.by_block block ≡ held_for block holds
  pub times : AreTimesIn held.times (registers_of holds)

-- the block that is accepted next of each port
abbrev pub next_of : List (Vec ℕ) → List ℕ → ℕ → Option ℕ
next_of issued accepted port = slice_get (slice_index_or (map (λ v. v.items) issued) port [])
    (slice_index accepted port)

-- the two answer alike at each number of a port
pub record AreAlike (next other : ℕ → Option ℕ) : Type 0 where
  pub alike : (port : ℕ) → port < 256 → next port ≡ other port
