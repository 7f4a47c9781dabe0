use Rattle.std.proofs.Common.{ℕ, ap, ◌∙◌}
use Rattle.std.specs.Prelude.{bytes_eq}
use Rattle.lf_rules.proofs.Bytes.{masked_flat}
use Rattle.bank_state.specs.Bytes.{bytes_under, flat_of}
use Rattle.bank_state.proofs.Masked.{all_of_list}
use Rattle.bank_state.proofs.memory.FlatMemory.carries.Goals as goal

pub returns : goal.returns
returns c =
    let stored : ℕ → ℕ = flat_of c.args.self.now c.args.block in
    all_of_list (bytes_under stored c.args.shape.now.block c.args.mask.0) c.deref.result.now c.args.bytes.now.items
    c.end_of_masked.result c.len.result c.eq.result c.end_of_masked.ensures.value c.end_of_masked.ensures.within
    c.deref.ensures.0 c.len.ensures.value c.eq.ensures
    ∙ ap (bytes_eq c.args.bytes.now.items) (masked_flat stored c.args.mask.0 c.args.shape.now.block)
