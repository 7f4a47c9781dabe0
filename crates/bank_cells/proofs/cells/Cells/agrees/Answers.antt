use Rattle.std.proofs.Common.{ℕ, ◌||◌, ◌==◌, length, slice_index, refl, ap, ◌∙◌}
use Rattle.std.specs.List.{range_with_len, list_all}
use Rattle.lf_rules.specs.Address.{is_under}
use Rattle.lf_rules.proofs.Bytes.{fill_agrees}
use Rattle.bank_cells.specs.Cells.{memory_at, written_at}
use Rattle.bank_cells.proofs.cells.Cells.agrees.Goals as goal

pub returns : goal.returns
returns c = λ shape block is long.
    let bytes = c.args.bytes.now in
    fill_agrees (memory_at c.args.self.now block) _ bytes bytes c.written.result (written_at c.args.self.now block)
    shape.block
    (c.agree_off.ensures ∙ ap (λ (f : ℕ → ℕ). list_all (λ i. is_under c.written.result i || slice_index bytes i == f i)
    (range_with_len 0 (length bytes))) (c.bytes.ensures block is))
    refl (c.written.ensures block is) long
