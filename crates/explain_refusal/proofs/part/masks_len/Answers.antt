use Rattle.std.proofs.Common.{◌≡◌, ◌+◌, ◌*◌, List, [], ◌∷◌, ◌++◌, ap, ◌∙◌, arith}
use Rattle.std.specs.Int.RustNames.{count_ones}
use Rattle.lf_rules.specs.declared.mask.Mask.{Mask}
use Rattle.lf_rules.specs.Fits.{masks_len}
use Rattle.lf_codec.specs.Checks.{u64_at, masks_at}
use Rattle.lf_codec.proofs.MaskBytes.{masks_more}
use Rattle.explain_refusal.proofs.part.masks_len.Goals as goal

masks_len_push : (masks : List Mask) (m : Mask) → masks_len (masks ++ m ∷ []) ≡ masks_len masks + count_ones m.0
masks_len_push [] m = omega arith
masks_len_push (first ∷ masks) m = omega (arith, masks_len_push masks m)

pub loop-k-preserved : goal.loop-k-preserved
loop-k-preserved c =
    let k = c.loop-k.k in
    let bytes = c.args.bytes.now in
    let more : masks_len (masks_at (k + 1) bytes) ≡ masks_len (masks_at k bytes) + count_ones (u64_at (8 * k) bytes) =
    ap masks_len (masks_more k bytes) ∙ masks_len_push (masks_at k bytes) (record { 0 = u64_at (8 * k) bytes }) in
    let ones : c.ones-more.result ≡ count_ones (u64_at (8 * k) bytes) =
    c.ones-more.ensures.ones ∙ ap count_ones c.u64_at-mask.ensures in
    record {
      so_far = omega (arith, more, ones, c.loop-k.invariant.so_far);
      few = omega (arith, c.ones-more.ensures.few, c.loop-k.invariant.few);
    }
