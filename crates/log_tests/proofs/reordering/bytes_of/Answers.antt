use Rattle.std.proofs.Common.{◌≡◌, ℕ, ◌-◌, List, take, drop, length, ap, ◌∙◌, subst, arith}
use Rattle.lf_rules.specs.Fits.{FitsRecord}
use Rattle.lf_rules.specs.declared.event.Record.{Record}
use Rattle.lf_codec.specs.Layout.{record_bytes}
use Rattle.log_tests.proofs.Alone.{long, alone}
use Rattle.log_tests.proofs.reordering.bytes_of.Goals as goal

pub slice_bounds-from_slice-count : goal.slice_bounds-from_slice-count
slice_bounds-from_slice-count c = omega (
  arith,
  long _ _ _ _ c.new-memory.ensures.items c.in_ok-trace.ensures.spelled,
  c.len-end.ensures,
)

pub slice_bounds-from_slice-start : goal.slice_bounds-from_slice-start
slice_bounds-from_slice-start c = omega (
  arith,
  long _ _ _ _ c.new-memory.ensures.items c.in_ok-trace.ensures.spelled,
  c.len-end.ensures,
)

pub returns-clause-spelled : goal.returns-clause-spelled
returns-clause-spelled c =
    let bytes = c.in_ok-trace.trace.items in
    let count : c.len-end.result ≡ length bytes = omega (arith, c.len-end.ensures) in
    c.in_ok-from_slice.ensures.items
    ∙ ap (λ (t : List ℕ). take (c.len-end.result - 8 - 16) (drop 16 t)) c.deref.ensures.value
    ∙ ap (λ n. take (n - 8 - 16) (drop 16 bytes)) count
    ∙ alone _ _ _ _ c.new-memory.ensures.items c.in_ok-trace.ensures.spelled
    ∙ ap (λ (x : Record). record_bytes x) c.to_record.ensures

pub returns-clause-fits : goal.returns-clause-fits
returns-clause-fits c =
    subst (λ (x : Record). FitsRecord 1 1 8 1 x) c.to_record.ensures c.in_ok-trace.ensures.fits.each.0.fits
