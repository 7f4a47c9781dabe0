use Rattle.std.proofs.Common.{◌∙◌, eqb-true, length}
use Rattle.lf_levels.proofs.level.TwoLevel.write.Goals as goal

pub put_masks-requires : goal.put_masks-requires
put_masks-requires c =
    eqb-true (length c.args.dirty.now.items) c.requires.line.0 c.requires.line.1.1 ∙ c.requires.line.1.0
