-- What a bank knows of a block is what each state has that it shows.
use Rattle.std.proofs.Common.{◌≡◌, ℕ, refl, sym, ap, ◌∙◌}
use Rattle.lf_rules.specs.Address.{FlatMemory, block_bytes, second_of}
use Rattle.lf_rules.specs.State.{Slice}
use Rattle.lf_rules.specs.Table.{store_bytes}
use Rattle.bank_cells.specs.declared.known.First.{First}
use Rattle.bank_cells.specs.declared.known.First.TheVariants as level1
use Rattle.bank_cells.specs.Cells.{first_at, written_at}
use Rattle.bank_events.specs.Agrees.{BlockAgrees}
use Rattle.bank_events.specs.BankView.{BankView}
use Rattle.bank_events.proofs.AtBlock.{none_store}
use Rattle.lf_replay.specs.declared.look.BlockState.{BlockState}
use Rattle.lf_replay.specs.Looks.{IsBlockState, OfShown}
use Rattle.lf_replay.specs.Seen.{IsSeen, stores_of}

-- the bytes of a block's waiting stores
stores_are : (slice : Slice) (block : ℕ) (f : First) (written : ℕ) → BlockAgrees slice block f written →
    stores_of f written ≡ store_bytes slice.waiting block
stores_are slice block level1.Absent written b = sym (none_store slice.waiting block b.waits)
stores_are slice block (level1.InFlight register how) written b = sym (b.stores refl)
stores_are slice block level1.Present written b = sym (none_store slice.waiting block b.waits)

pub seen_is : (seen : BlockState) (block : ℕ) (view : BankView) → IsSeen seen block view.shape view.cells →
    OfShown view (IsBlockState seen block)
seen_is seen block view is = λ now shows.
    let b = shows.known.blocks block in
    let s = shows.known.seconds (second_of view.shape block) in
    record {
      line1 = is.line1 ∙ sym b.line;
      line2 = is.line2 ∙ sym s.line;
      asked = is.asked ∙ sym b.asked;
      supplied = is.supplied ∙ sym b.supplied;
      held = is.held ∙ sym b.waits;
      stores = is.stores
          ∙ stores_are now.slice block (first_at view.cells block) (written_at view.cells block) b;
      fetched = is.fetched ∙ sym s.fetched;
      bytes = is.bytes ∙ ap (λ (memory : FlatMemory). block_bytes view.shape memory block) (sym shows.known.memory);
    }
