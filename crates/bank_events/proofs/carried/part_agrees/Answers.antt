use Rattle.std.proofs.Common.{ℕ, List, length, ap, ◌∙◌, arith}
use Rattle.lf_rules.specs.Address.{sub_block, agree_off, block_bytes}
use Rattle.lf_rules.proofs.Wide.{part_len}
use Rattle.bank_cells.specs.Cells.{memory_at, written_at}
use Rattle.bank_events.proofs.Places.{block_le}
use Rattle.bank_events.proofs.carried.part_agrees.Goals as goal

pub agrees-requires-clause-small : goal.agrees-requires-clause-small
agrees-requires-clause-small c =
    let shape = c.args.shape.now in
    let part = c.part_at.ensures in
    let long = ap length part ∙ part_len c.args.bytes.now shape.block c.args.part shape.factor c.requires.inside
    c.requires.whole in
    let small = block_le shape.block c.requires.in_range.block_size in
    omega (arith, long, small)

pub returns : goal.returns
returns c = λ second there.
    let shape = c.args.shape.now in
    let part = c.part_at.ensures in
    let long = ap length part ∙ part_len c.args.bytes.now shape.block c.args.part shape.factor c.requires.inside
    c.requires.whole in
    let block = sub_block shape second c.args.part in
    c.agrees.ensures shape block there long
    ∙ ap (λ (xs : List ℕ). agree_off shape.block xs (block_bytes shape (memory_at c.args.cells.now) block)
    (written_at c.args.cells.now block)) part
