use Rattle.std.proofs.Common.{ap, ◌∙◌, length, ◌==◌}
use Rattle.lf_levels.proofs.Joined.{joined_keeps}
use Rattle.lf_levels.proofs.level.TwoLevel.join.Goals as goal

pub returns-clause-line : goal.returns-clause-line
returns-clause-line c factor is = ap (λ ms. length ms == factor) c.join_masks.ensures
    ∙ joined_keeps factor c.args.dirty.now.items c.args.more.now.items is
