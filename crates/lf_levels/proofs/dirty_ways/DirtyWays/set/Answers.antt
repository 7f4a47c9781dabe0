use Rattle.std.proofs.Common.{arith, sym, ap, ◌∙◌, length}
use Rattle.lf_levels.proofs.WayWords.{words_fit, part_long, written_way}
use Rattle.lf_levels.proofs.dirty_ways.DirtyWays.set.Goals as goal

pub overflow_mul-from : goal.overflow_mul-from
overflow_mul-from g c =
    let fit = words_fit g.L.Level.dirty_of c.self.inside.words c.self.view_is
    (g.met.L.Level.width_fits c.self.inside.factor c.self.invariant).0 c.width-width.ensures c.requires.way in
    omega (arith, c.self.inside.words.ok, c.self.inside.words.small, fit)

pub overflow_add-from : goal.overflow_add-from
overflow_add-from g c =
    let fit = words_fit g.L.Level.dirty_of c.self.inside.words c.self.view_is
    (g.met.L.Level.width_fits c.self.inside.factor c.self.invariant).0 c.width-width.ensures c.requires.way in
    omega (arith, c.self.inside.words.ok, c.self.inside.words.small, fit)

pub offset_bounds-deref_mut-from : goal.offset_bounds-deref_mut-from
offset_bounds-deref_mut-from g c =
    let fit = words_fit g.L.Level.dirty_of c.self.inside.words c.self.view_is
    (g.met.L.Level.width_fits c.self.inside.factor c.self.invariant).0 c.width-width.ensures c.requires.way in
    omega (arith, c.deref_mut.type_inv.1, ap length c.deref_mut.ensures.value, fit)

pub slice_bounds-write-end : goal.slice_bounds-write-end
slice_bounds-write-end g c =
    let fit = words_fit g.L.Level.dirty_of c.self.inside.words c.self.view_is
    (g.met.L.Level.width_fits c.self.inside.factor c.self.invariant).0 c.width-width.ensures c.requires.way in
    omega (arith, ap length c.deref_mut.ensures.value, fit)

pub write-requires : goal.write-requires
write-requires g c =
    let fits = g.met.L.Level.width_fits c.self.inside.factor c.self.invariant in
    let long = part_long g.L.Level.dirty_of c.self.inside.words c.self.view_is fits.0 c.width-width.ensures
    c.requires.way c.deref_mut.result.now c.deref_mut.ensures.value in
    record {
      some = omega (arith, long, fits.0, c.width-width.ensures);
      line = (
        c.self.inside.factor,
        (
          sym c.width-width.ensures ∙ sym long,
          ap (λ shape. g.L.Level.is_line shape.factor c.args.dirty.now) c.self.view_is ∙ c.requires.line,
        ),
      );
    }

pub returns : goal.returns
returns g c = written_way g.L.Level.dirty_of c.self.inside.words c.self.view_is
    (g.met.L.Level.width_fits c.self.inside.factor c.self.invariant).0 c.width-width.ensures c.requires.way
    c.deref_mut.result.now c.deref_mut.ensures.value c.write.new.words c.args.dirty.now c.write.ensures.count
    c.write.ensures.value
