use Rattle.std.proofs.Common.{sym, ◌∙◌}
use Rattle.run_shrink.proofs.Masks.{same_masks}
use Rattle.run_shrink.proofs.same.are_same_masks.Goals as goal

pub returns : goal.returns
returns c = λ same. same_masks c.args.masks.now c.args.other.now (sym c.eq.ensures ∙ same)
