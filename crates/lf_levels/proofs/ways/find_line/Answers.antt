use Rattle.std.proofs.Common.{◌+◌, sym, ap, ◌∙◌, Some, None, arith}
use Rattle.std.specs.Prelude.{slice_index_or}
use Rattle.std.specs.List.{position, slice_range}
use Rattle.lf_levels.specs.Rows.{is_same}
use Rattle.lf_levels.proofs.Counting.{part-finds, part-lacks}
use Rattle.lf_levels.proofs.Keyed.{same_key}
use Rattle.lf_levels.proofs.ways.find_line.Goals as goal

pub returns-in-Some : goal.returns-in-Some
returns-in-Some c =
    let a = c.args in
    let is = ap (λ key. position (is_same key) (slice_range a.keys.now a.row (a.row + a.ways))) c.of.ensures in
    let found = part-finds (is_same (Some a.block)) a.keys.now a.row a.ways None c.requires c.in-Some.way
    (sym (c.in-Some.ensures ∙ is)) in (
      omega arith,
      omega (arith, found.0),
      sym (same_key a.block (slice_index_or a.keys.now (a.row + c.in-Some.way) None)) ∙ found.1,
    )

pub returns-in-None : goal.returns-in-None
returns-in-None c place low high =
    let a = c.args in
    let is = ap (λ key. position (is_same key) (slice_range a.keys.now a.row (a.row + a.ways))) c.of.ensures in
    sym (same_key a.block (slice_index_or a.keys.now place None))
    ∙ part-lacks (is_same (Some a.block)) a.keys.now a.row a.ways None c.requires (sym (c.in-None.ensures ∙ is)) place
    low high
