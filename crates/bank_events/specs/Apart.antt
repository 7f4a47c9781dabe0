-- Where a block of a bank stands: a fact of each state that a run reaches.
use Rattle.std.specs.Prelude.{◌≡◌, ℕ, Bool, true, false, not, ◌&&◌, ◌||◌, ◌==◌, List}
use Rattle.std.specs.List.{list_any, AllByRecursion}
use Rattle.lf_rules.specs.declared.shape.Shape.{Shape}
use Rattle.lf_rules.specs.Address.{second_of}
use Rattle.lf_rules.specs.Registers.{Held, holds}
use Rattle.lf_rules.specs.Lines.{has_line}
use Rattle.lf_rules.specs.State.{Asked, Slice}
use Rattle.lf_rules.specs.Table.{is_asked, is_among, block_asked}

-- some level-two register has a target that asks for the block
abbrev pub asks_for : List (Held Asked) → ℕ → Bool
asks_for held block = list_any (λ h. block_asked h == block) held

-- each level-two register holds the second-level block of its target's block
abbrev pub AreHome : Shape → List (Held Asked) → Type 0
AreHome shape held = AllByRecursion (λ h. second_of shape (block_asked h) ≡ h.block) held

-- A block is idle, asked for, fetched for a target of a level-two register, or supplied, and a request
-- waits for it in a level-one register unless it is idle. Level one has a line only of an idle block,
-- and only where level two has one of its second-level block.
abbrev pub stands : Bool → Bool → Bool → Bool → Bool → Bool → Bool
stands false false false false line1 line2 = not line1 || line2
stands true false false true false line2 = true
stands false true false true false false = true
stands false false true true false true = true
stands _ _ _ _ _ _ = false

abbrev pub stands_at : Shape → Slice → ℕ → Bool
stands_at shape slice block =
    stands (is_asked slice.asked block) (asks_for slice.regs2 block) (is_among slice.supplied block)
    (holds slice.waiting block)
    (has_line slice.lines1 block) (has_line slice.lines2 (second_of shape block))

-- level two has no line of a second-level block that it fetches
abbrev pub is_absent_if_fetched : Slice → ℕ → Bool
is_absent_if_fetched slice second = not (holds slice.regs2 second && has_line slice.lines2 second)

pub record EachStands (shape : Shape) (slice : Slice) : Type 0 where
  pub blocks : (block : ℕ) → stands_at shape slice block ≡ true
  pub fetched : (second : ℕ) → is_absent_if_fetched slice second ≡ true
