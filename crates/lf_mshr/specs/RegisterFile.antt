-- A register file as its contract sees it: its organisation and its number of destinations, which never change, and
-- what
-- it holds, in the order of acceptance.
use Rattle.std.specs.Prelude.{◌≡◌, ℕ, Bool, List, [], ◌∷◌, ◌++◌, None, ◌⊎◌, bit_or, if◌then◌else◌}
use Rattle.std.specs.List.{fold}
use Rattle.lf_rules.specs.declared.shape.OrgShape.{OrgShape}
use Rattle.lf_rules.specs.declared.shape.OrgShape.TheVariants.{Implicit, Explicit, Inverted}
use Rattle.lf_rules.specs.Clauses.{Clause, OfBank}
use Rattle.lf_rules.specs.Registers.{Held, has_room, primary_clauses, merge_clauses, targets_of, released}
use Rattle.lf_rules.specs.declared.mask.Mask.{Mask}
use Rattle.lf_rules.specs.Run.{first_failing}

pub record RegisterFile (T : Type 0) : Type 0 where
  pub organisation : OrgShape
  pub destinations : ℕ
  pub held : List (Held T)

module _ {T : Type 0} where
  -- all registers are free
  abbrev pub empty_file : OrgShape → ℕ → RegisterFile T
  empty_file organisation destinations = record { organisation = organisation; destinations = destinations; held = [] }

  abbrev pub implicit_file : ℕ → ℕ → List (Held T) → RegisterFile T
  implicit_file registers destinations held = record {
    organisation = Implicit registers;
    destinations =
        destinations;
    held = held;
  }

  abbrev pub explicit_file : ℕ → ℕ → ℕ → List (Held T) → RegisterFile T
  explicit_file registers entries destinations held = record {
    organisation =
        Explicit registers entries;
    destinations = destinations;
    held = held;
  }

  abbrev pub inverted_file : ℕ → List (Held T) → RegisterFile T
  inverted_file destinations held = record { organisation = Inverted; destinations = destinations; held = held }

  abbrev pub held_item : ℕ → ℕ → T → Held T
  held_item register block target = record { register = register; block = block; target = target }

  -- the file after a target was placed
  abbrev pub with_target : RegisterFile T → ℕ → ℕ → T → RegisterFile T
  with_target file register block target =
      record {
        organisation = file.organisation;
        destinations = file.destinations;
        held =
            file.held ++ held_item register block target ∷ [];
      }

  -- the file after the targets of a block have left
  abbrev pub without_block : RegisterFile T → ℕ → RegisterFile T
  without_block file block = record {
    organisation = file.organisation;
    destinations = file.destinations;
    held =
        released file.held block;
  }

  -- a register and one target of it
  abbrev pub released_pair : Held T → ℕ × T
  released_pair item = (item.register, item.target)

-- what a target asks for: its position in the block, and its destination
module _ {T : Type 0} (position destination : T → ℕ) where
  -- what a primary miss to the block must meet to take the register, in order
  abbrev pub primary_wants : RegisterFile T → ℕ → ℕ → T → List Clause
  primary_wants file register block target = primary_clauses file.organisation file.destinations file.held block
      (destination target) register

  -- what a further miss to the block must meet to join the register, in order
  abbrev pub merge_wants : RegisterFile T → ℕ → ℕ → T → List Clause
  merge_wants file register block target =
      merge_clauses file.organisation file.destinations position file.held block (destination target)
      (position target) register

  abbrev pub has_room_for : RegisterFile T → ℕ → T → Bool
  has_room_for file block target =
      has_room file.organisation file.destinations position file.held block (destination target) (position target)

  -- the register takes the target, as a primary miss or as a further one
  abbrev pub TakesTarget : RegisterFile T → ℕ → T → ℕ → Type 0
  TakesTarget file block target register =
      (first_failing OfBank (primary_wants file register block target) ≡ None)
      ⊎ (first_failing OfBank (merge_wants file register block target) ≡ None)

  -- some register takes the target
  abbrev pub SomeTakes : RegisterFile T → ℕ → T → Type 0
  SomeTakes file block target = (register : ℕ) × TakesTarget file block target register

-- which targets are stores, and the bytes that each asks for
module _ {T : Type 0} (is_store : T → Bool) (bytes : T → Mask) where
  abbrev pub store_mask : T → ℕ
  store_mask target = if is_store target then (bytes target).0 else 0

  -- the bytes that the block's waiting stores write
  abbrev pub store_bytes : RegisterFile T → ℕ → ℕ
  store_bytes file block = fold (λ mask h. bit_or mask (store_mask h.target)) 0 (targets_of file.held block)
