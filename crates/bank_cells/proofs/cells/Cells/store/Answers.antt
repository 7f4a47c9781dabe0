use Rattle.std.proofs.Common.{ℕ, ap, ◌∙◌, refl, slice_index, arith}
use Rattle.std.specs.Prelude.{bit_or}
use Rattle.bank_state.specs.Bytes.{put}
use Rattle.bank_cells.specs.declared.cell.Cell.{Cell}
use Rattle.bank_cells.proofs.Placed.{cell_within}
use Rattle.bank_cells.proofs.Words.{word_kept, word_read, word_written}
use Rattle.bank_cells.proofs.cells.Cells.store.Goals as goal

pub index_mut-known-requires : goal.index_mut-known-requires
index_mut-known-requires c =
    let within = cell_within _ c.args.self.now c.self.view_is c.self.invariant.1 c.args.cell c.requires.there in
    omega (arith, within, c.self.inside.cells.ok.0)

pub returns-clause-memory : goal.returns-clause-memory
returns-clause-memory c =
    λ block is. word_written (λ (k : Cell). slice_index k.bytes) _ c.args.self.now c.self.view_is c.self.invariant.1
    c.args.cell c.requires.there _ _ (c.put.ensures ∙ ap (λ (f : ℕ → ℕ). put f c.args.offset c.args.new.now)
    (word_read (λ (k : Cell). slice_index k.bytes) _ c.args.self.now c.self.view_is c.self.invariant.1 c.args.cell
    c.requires.there c.index_mut-known.result.now c.index_mut-known.ensures.value block is)) block is

pub returns-clause-written : goal.returns-clause-written
returns-clause-written c =
    λ block is. word_written (λ (k : Cell). k.written) _ c.args.self.now c.self.view_is c.self.invariant.1 c.args.cell
    c.requires.there _ _ (ap (λ n. bit_or n c.args.mask)
    (word_read (λ (k : Cell). k.written) _ c.args.self.now c.self.view_is c.self.invariant.1 c.args.cell
    c.requires.there c.index_mut-known.result.now c.index_mut-known.ensures.value block is)) block is

pub returns-clause-first : goal.returns-clause-first
returns-clause-first c =
    word_kept (λ (k : Cell). k.first) _ c.args.self.now c.self.view_is c.self.invariant.1 c.args.cell
    c.requires.there c.index_mut-known.result.now _ c.index_mut-known.ensures.value refl

pub returns-clause-dirty : goal.returns-clause-dirty
returns-clause-dirty c =
    word_kept (λ (k : Cell). k.dirty) _ c.args.self.now c.self.view_is c.self.invariant.1 c.args.cell
    c.requires.there c.index_mut-known.result.now _ c.index_mut-known.ensures.value refl
