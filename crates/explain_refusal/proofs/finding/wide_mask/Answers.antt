use Rattle.std.proofs.Common.{◌≡◌, ℕ, ◌<◌, Bool, true, false, length, get_or, sym, ap, ◌∙◌, arith, zero-add}
use Rattle.std.specs.List.{range_with_len}
use Rattle.std.proofs.lemmas.List.FromFn.{length-range_with_len, get_or-range_with_len}
use Rattle.std.proofs.lemmas.List.Sums.{prefix_len-drop_yes, prefix_len-drop_no, prefix_len-drop_all}
use Rattle.explain_refusal.specs.Finding.{fits_block}
use Rattle.explain_refusal.proofs.finding.wide_mask.Goals as goal

pub loop-place-preserved : goal.loop-place-preserved
loop-place-preserved c =
    let i = c.loop-place.place in
    let n = c.args.header.now.factor in
    let fits : ℕ → Bool = fits_block c.args.header.now c.args.bytes.now in
    let below : i < n = omega arith in
    let long : i < length (range_with_len 0 n) = omega (arith, length-range_with_len 0 n) in
    let passes : fits (get_or (range_with_len 0 n) i 0) ≡ true =
    ap fits (get_or-range_with_len 0 n i 0 below ∙ zero-add i) ∙ sym c.fits_block.ensures ∙ c.if-not-fits_block.false in
    omega (arith, c.loop-place.invariant, prefix_len-drop_yes fits (range_with_len 0 n) i 0 long passes)

pub returns-then-not-fits_block : goal.returns-then-not-fits_block
returns-then-not-fits_block c =
    let i = c.loop-place.place in
    let n = c.args.header.now.factor in
    let fits : ℕ → Bool = fits_block c.args.header.now c.args.bytes.now in
    let below : i < n = omega arith in
    let long : i < length (range_with_len 0 n) = omega (arith, length-range_with_len 0 n) in
    let fails : fits (get_or (range_with_len 0 n) i 0) ≡ false =
    ap fits (get_or-range_with_len 0 n i 0 below ∙ zero-add i) ∙ sym c.fits_block.ensures ∙ c.if-not-fits_block.true in
    omega (arith, c.loop-place.invariant, prefix_len-drop_no fits (range_with_len 0 n) i 0 long fails)

pub returns : goal.returns
returns c =
    let n = c.args.header.now.factor in
    let fits : ℕ → Bool = fits_block c.args.header.now c.args.bytes.now in
    omega (
      arith,
      c.loop-place.invariant,
      length-range_with_len 0 n,
      prefix_len-drop_all fits (range_with_len 0 n)
          c.loop-place.place,
    )
