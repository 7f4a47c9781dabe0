use Rattle.std.proofs.Common.{ap, refl, slice_index, arith}
use Rattle.std.specs.Prelude.{bit_or}
use Rattle.bank_cells.specs.declared.cell.Cell.{Cell}
use Rattle.bank_cells.proofs.Placed.{cell_within}
use Rattle.bank_cells.proofs.Words.{word_kept, word_read, word_written}
use Rattle.bank_cells.proofs.cells.Cells.evict.Goals as goal

pub index_mut-known-requires : goal.index_mut-known-requires
index_mut-known-requires c =
    let within = cell_within _ c.args.self.now c.self.view_is c.self.invariant.1 c.args.cell c.requires in
    omega (arith, within, c.self.inside.cells.ok.0)

pub returns-clause-first : goal.returns-clause-first
returns-clause-first c =
    word_written (λ (k : Cell). k.first) _ c.args.self.now c.self.view_is c.self.invariant.1 c.args.cell
    c.requires _ _ refl

pub returns-clause-written : goal.returns-clause-written
returns-clause-written c =
    word_written (λ (k : Cell). k.written) _ c.args.self.now c.self.view_is c.self.invariant.1 c.args.cell
    c.requires _ _ refl

pub returns-clause-dirty : goal.returns-clause-dirty
returns-clause-dirty c =
    λ block is. word_written (λ (k : Cell). k.dirty) _ c.args.self.now c.self.view_is c.self.invariant.1 c.args.cell
    c.requires _ _ (ap (λ n. bit_or n c.args.mask.0)
    (word_read (λ (k : Cell). k.dirty) _ c.args.self.now c.self.view_is c.self.invariant.1 c.args.cell c.requires
    c.index_mut-known.result.now c.index_mut-known.ensures.value block is)) block is

pub returns-clause-memory : goal.returns-clause-memory
returns-clause-memory c =
    word_kept (λ (k : Cell). slice_index k.bytes) _ c.args.self.now c.self.view_is c.self.invariant.1 c.args.cell
    c.requires c.index_mut-known.result.now _ c.index_mut-known.ensures.value refl
