use Rattle.std.proofs.Common.{ℕ, length, ap, refl, ◌∙◌}
use Rattle.std.specs.Prelude.{bytes_eq}
use Rattle.lf_rules.proofs.Bytes.{masked_flat}
use Rattle.bank_state.specs.Bytes.{bytes_under}
use Rattle.bank_state.proofs.Masked.{all_of_list}
use Rattle.bank_cells.specs.Cells.{memory_at}
use Rattle.bank_cells.proofs.cells.Cells.carries.Goals as goal

pub returns : goal.returns
returns c = λ block is.
    let stored : ℕ → ℕ = memory_at c.args.self.now block in
    all_of_list (bytes_under stored c.args.shape.now.block c.args.mask.0) c.args.bytes.now c.args.bytes.now
    c.end_of_masked.result (length c.args.bytes.now) c.eq.result (c.end_of_masked.ensures.value block is)
    c.end_of_masked.ensures.within refl refl c.eq.ensures
    ∙ ap (bytes_eq c.args.bytes.now) (masked_flat stored c.args.mask.0 c.args.shape.now.block)
