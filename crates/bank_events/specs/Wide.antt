-- What is done with the blocks of a second-level block, one after another.
use Rattle.std.specs.Prelude.{ℕ, ◌+◌, ◌==◌, Bool, List, [], ◌∷◌}
use Rattle.lf_rules.specs.declared.shape.Shape.{Shape}
use Rattle.lf_rules.specs.Address.{Masks, sub_block, agree_off, part_at, block_bytes, mask_at}
use Rattle.lf_rules.specs.State.{update}
use Rattle.lf_mshr.specs.declared.level_two.Request2.{Request2}
use Rattle.bank_cells.specs.declared.known.Fetch.TheVariants as fetch
use Rattle.bank_cells.specs.declared.known.First.{First}
use Rattle.bank_cells.specs.declared.known.First.TheVariants as level1
use Rattle.bank_cells.specs.Cells.{CellsView, first_at, memory_at, written_at, dirty_at}
use Rattle.bank_events.specs.Known.{is_absent}

-- Are the bytes of the sub-block at a place those of the memory, off the bytes that stores wrote?
abbrev pub part_agrees : Shape → CellsView → ℕ → List ℕ → ℕ → Bool
part_agrees shape cells second bytes place =
    let block = sub_block shape second place in
    agree_off shape.block (part_at shape.block bytes place) (block_bytes shape (memory_at cells) block)
    (written_at cells block)

-- The block that each target asks for is supplied. The blocks follow the first one.
abbrev pub supplied_by : ℕ → (ℕ → First) → List (ℕ × Request2) → ℕ → First
supplied_by first f [] = f
supplied_by first f (t ∷ ts) =
    supplied_by first (update f (first + t.1.position) (level1.InFlight t.1.destination fetch.Supplied)) ts

-- level one has nothing of the sub-block at a place
abbrev pub part_absent : Shape → CellsView → ℕ → ℕ → Bool
part_absent shape cells second place = is_absent (first_at cells (sub_block shape second place))

-- its dirty mask in the line of level two is the one of these at its place
abbrev pub part_dirty : Shape → CellsView → ℕ → Masks → ℕ → Bool
part_dirty shape cells second masks place = mask_at masks place == dirty_at cells (sub_block shape second place)
