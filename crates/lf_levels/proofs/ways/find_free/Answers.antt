use Rattle.std.proofs.Common.{◌+◌, sym, ap, ◌∙◌, None, arith}
use Rattle.std.specs.Prelude.{slice_index_or}
use Rattle.std.specs.List.{position, slice_range}
use Rattle.lf_levels.specs.Rows.{is_same}
use Rattle.lf_levels.proofs.Counting.{part-finds, part-lacks}
use Rattle.lf_levels.proofs.Keyed.{same_free}
use Rattle.lf_levels.proofs.ways.find_free.Goals as goal

pub returns-in-Some : goal.returns-in-Some
returns-in-Some c =
    let a = c.args in
    let is = ap (λ key. position (is_same key) (slice_range a.keys.now a.row (a.row + a.ways))) c.free.ensures in
    let found = part-finds (is_same None) a.keys.now a.row a.ways None c.requires c.in-Some.way
    (sym (c.in-Some.ensures ∙ is)) in (
      omega arith,
      omega (arith, found.0),
      sym (same_free (slice_index_or a.keys.now (a.row + c.in-Some.way) None)) ∙ found.1,
    )

pub returns-in-None : goal.returns-in-None
returns-in-None c place low high =
    let a = c.args in
    let is = ap (λ key. position (is_same key) (slice_range a.keys.now a.row (a.row + a.ways))) c.free.ensures in
    sym (same_free (slice_index_or a.keys.now place None))
    ∙ part-lacks (is_same None) a.keys.now a.row a.ways None c.requires (sym (c.in-None.ensures ∙ is)) place low high
