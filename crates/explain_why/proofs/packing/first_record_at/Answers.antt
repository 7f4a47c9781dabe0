use Rattle.std.proofs.Common.{ℕ, ◌≡◌, ◌+◌, ◌*◌, ◌∙◌, length, ap, arith}
use Rattle.lf_verdict.proofs.Lengths.{first_offset_is}
use Rattle.explain_why.proofs.packing.first_record_at.Goals as goal

pub returns : goal.returns
returns c memory records fits =
    let h = c.args.header.now in
    let product : c.from.result * (4 + c.from-2.result) ≡ length memory * (4 + h.block) =
    ap (λ (n : ℕ). n * (4 + c.from-2.result)) (c.from.ensures ∙ fits.memory_count)
    ∙ ap (λ (n : ℕ). length memory * (4 + n)) c.from-2.ensures in
    omega (arith, product, first_offset_is h memory fits.blocks)
