use Rattle.std.proofs.Common.{ℕ, ◌||◌, ◌==◌, length, slice_index, refl, ap, ◌∙◌}
use Rattle.std.specs.List.{range_with_len, list_all}
use Rattle.lf_rules.specs.Address.{is_under}
use Rattle.lf_rules.proofs.Bytes.{fill_agrees}
use Rattle.bank_state.specs.Bytes.{flat_of}
use Rattle.bank_state.proofs.memory.FlatMemory.agrees_off.Goals as goal

pub returns : goal.returns
returns c =
    let bytes = c.args.bytes.now in
    fill_agrees (flat_of c.args.self.now c.args.block) _ bytes bytes c.args.mask c.args.mask c.args.shape.now.block
    (c.agree_off.ensures ∙ ap (λ (f : ℕ → ℕ). list_all (λ i. is_under c.args.mask i || slice_index bytes i == f i)
    (range_with_len 0 (length bytes))) c.bytes_of.ensures)
    refl refl c.requires.whole
