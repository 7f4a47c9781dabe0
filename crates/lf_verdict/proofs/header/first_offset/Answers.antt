use Rattle.std.proofs.Common.{ℕ, ◌≡◌, ◌+◌, ◌*◌, ◌∙◌, ap, arith}
use Rattle.lf_verdict.proofs.Lengths.{first_offset_is}
use Rattle.lf_verdict.proofs.header.first_offset.Goals as goal

pub returns : goal.returns
returns c memory count fits =
    let h = c.args.header.now in
    let product : c.from.result * (4 + c.from-2.result) ≡ h.memory_count * (4 + h.block) =
    ap (λ (n : ℕ). n * (4 + c.from-2.result)) c.from.ensures
    ∙ ap (λ (n : ℕ). h.memory_count * (4 + n)) c.from-2.ensures in
    omega (arith, product, ap (λ (n : ℕ). n * (4 + h.block)) count, first_offset_is h memory fits)
