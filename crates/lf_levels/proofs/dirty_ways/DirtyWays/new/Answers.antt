use Rattle.std.proofs.Common.{◌*◌, sym, ap, ◌∙◌}
use Rattle.lf_levels.proofs.WayWords.{ways_new}
use Rattle.lf_levels.proofs.dirty_ways.DirtyWays.new.Goals as goal

pub returns-clause-count : goal.returns-clause-count
returns-clause-count g c =
    ways_new g.L.Level.dirty_of (g.L.Level.width c.args.factor)
    (g.met.L.Level.width_fits c.args.factor c.requires.factor).0 c.in_ok-words.words.items c.args.count
    (sym c.in_ok-words.words.ok.0 ∙ c.in_ok-words.ensures.len ∙ ap (λ n. c.args.count * n) c.width.ensures)
