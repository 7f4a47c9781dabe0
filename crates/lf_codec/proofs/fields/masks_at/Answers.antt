use Rattle.std.proofs.Common.{ℕ, List, ◌++◌, ◌∷◌, [], sym, ◌∙◌, arith}
use mathlib.Core.Path.{ap₂}
use Rattle.lf_rules.specs.declared.mask.Mask.{Mask}
use Rattle.lf_codec.proofs.MaskBytes.{masks_more}
use Rattle.lf_codec.proofs.fields.masks_at.Goals as goal

pub loop-i-preserved : goal.loop-i-preserved
loop-i-preserved c = record {
  items = c.push.ensures.items ∙ ap₂ (λ (xs : List Mask) (x : ℕ). xs ++ record { 0 = x } ∷ [])
      c.loop-i.invariant.items c.u64_at.ensures ∙ sym (masks_more c.loop-i.i c.args.bytes.now);
  count = omega (arith, c.push.ensures.len, c.loop-i.invariant.count);
}
