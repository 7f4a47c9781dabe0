use Rattle.std.proofs.Common.{arith, ap, length}
use Rattle.lf_levels.proofs.WayWords.{words_fit, part_long, read_way}
use Rattle.lf_levels.proofs.dirty_ways.DirtyWays.get.Goals as goal

pub overflow_mul-from : goal.overflow_mul-from
overflow_mul-from g c =
    let fit = words_fit g.L.Level.dirty_of c.self.inside.words c.self.view_is
    (g.met.L.Level.width_fits c.self.inside.factor c.self.invariant).0 c.width-width.ensures c.requires in
    omega (arith, c.self.inside.words.ok, c.self.inside.words.small, fit)

pub overflow_add-from : goal.overflow_add-from
overflow_add-from g c =
    let fit = words_fit g.L.Level.dirty_of c.self.inside.words c.self.view_is
    (g.met.L.Level.width_fits c.self.inside.factor c.self.invariant).0 c.width-width.ensures c.requires in
    omega (arith, c.self.inside.words.ok, c.self.inside.words.small, fit)

pub offset_bounds-deref-from : goal.offset_bounds-deref-from
offset_bounds-deref-from g c =
    let fit = words_fit g.L.Level.dirty_of c.self.inside.words c.self.view_is
    (g.met.L.Level.width_fits c.self.inside.factor c.self.invariant).0 c.width-width.ensures c.requires in
    omega (arith, c.deref.type_inv.1, ap length c.deref.ensures.value, fit)

pub slice_bounds-read-end : goal.slice_bounds-read-end
slice_bounds-read-end g c =
    let fit = words_fit g.L.Level.dirty_of c.self.inside.words c.self.view_is
    (g.met.L.Level.width_fits c.self.inside.factor c.self.invariant).0 c.width-width.ensures c.requires in
    omega (arith, ap length c.deref.ensures.value, fit)

pub read-requires : goal.read-requires
read-requires g c =
    let fits = g.met.L.Level.width_fits c.self.inside.factor c.self.invariant in
    let long = part_long g.L.Level.dirty_of c.self.inside.words c.self.view_is fits.0 c.width-width.ensures c.requires
    c.deref.result.now c.deref.ensures.value in
    record {
      some = omega (arith, long, fits.0, c.width-width.ensures);
      few = omega (arith, long, fits.1, c.width-width.ensures);
    }

pub returns : goal.returns
returns g c = read_way g.L.Level.dirty_of c.self.inside.words c.self.view_is
    (g.met.L.Level.width_fits c.self.inside.factor c.self.invariant).0 c.width-width.ensures c.requires
    c.deref.result.now c.deref.ensures.value c.read.result c.read.ensures c.read.result
