use Rattle.std.proofs.Common.{ℕ, ◌+◌, ◌<◌, List, [], ◌∷◌, ◌++◌, length, take, sym, ap, ◌∙◌, arith}
use Rattle.lf_codec.specs.Lengths.{bytes_len}
use Rattle.explain_lines.specs.Marks.{offsets_of}
use Rattle.explain_lines.proofs.Marking.{bytes_len-append, first_more, first_bytes, offsets_more}
use Rattle.explain_lines.proofs.mark.offsets_of.Goals as goal

pub loop-place-preserved : goal.loop-place-preserved
loop-place-preserved c fits =
    let rs = c.args.records.now.records in
    let k = c.loop-place.place in
    let start = c.args.start in
    let lt : k < length rs = omega (arith, c.loop-place-test.true, c.len-place-end.ensures) in
    let item = c.lend.result.now in
    let is = first_more rs k item lt (c.lend.ensures item) in
    let so_far = c.loop-place.invariant fits in (
      omega (
        arith,
        c.saturating_add-offset.ensures,
        c.record_len.ensures.len,
        so_far.0,
        ap bytes_len is,
        bytes_len-append (take k rs) (item ∷ []),
        first_bytes rs (k + 1),
        fits,
      ),
      c.in_ok-push.ensures.items
          ∙ ap (λ (xs : List ℕ). xs ++ c.loop-place.offset ∷ []) so_far.1
          ∙ ap (λ (n : ℕ). offsets_of start (take k rs) ++ n ∷ []) so_far.0
          ∙ sym (offsets_more start (take k rs) item)
          ∙ ap (offsets_of start) (sym is),
    )
