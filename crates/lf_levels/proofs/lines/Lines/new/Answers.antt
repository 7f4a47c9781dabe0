use Rattle.std.proofs.Common.{arith, ap, ◌∙◌, ◌*◌}
use Rattle.lf_levels.specs.Rows.{lines_of}
use Rattle.lf_levels.proofs.InWays.{lines_of-free}
use Rattle.lf_levels.proofs.Searched.{new_ways, new_rows}
use Rattle.lf_levels.proofs.Rows.{table_of}
use Rattle.lf_levels.proofs.lines.Lines.new.Goals as goal

pub invariant_of-result : goal.invariant_of-result
invariant_of-result g c =
    rw (c.of.ensures, c.of-2.ensures, c.of-3.ensures) (
      c.in_ok-dirty.ensures.factor,
      new_ways g.L.Level.set g.L.Level.is_line c.args.sets c.args.ways c.args.banks c.args.factor
          (omega (arith, c.requires.sets.0)) (omega (arith, c.requires.sets.1)) (omega (arith, c.requires.ways.1))
          (omega (arith, c.requires.banks.0)) c.requires.factor g.L.Level.set_below c.in_ok-keys.keys.items
          c.in_ok-dirty.dirty.ways c.in_ok-keys.ensures c.in_ok-dirty.ensures.count,
    )

pub returns : goal.returns
returns g c =
    rw (c.of.ensures, c.of-2.ensures, c.of-3.ensures)
    (ap (table_of c.args.sets c.args.ways c.args.banks c.args.factor)
    (ap lines_of (new_rows c.in_ok-keys.keys.items c.in_ok-dirty.dirty.ways (c.args.sets * c.args.ways)
    c.in_ok-keys.ensures c.in_ok-dirty.ensures.count) ∙ lines_of-free (c.args.sets * c.args.ways)))
