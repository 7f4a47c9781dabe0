use Rattle.std.proofs.Common.{ap, ◌∙◌}
use Rattle.lf_rules.specs.Address.{is_under}
use Rattle.lf_rules.proofs.MaskBits.{shifted_ones, bits_of_mask}
use Rattle.lf_rules.proofs.mask.Mask.of.Goals as goal

pub returns-else-size-eq0-clause-value : goal.returns-else-size-eq0-clause-value
returns-else-size-eq0-clause-value c = shifted_ones c.args.offset c.args.size c.requires

pub returns-else-size-eq0-clause-bits : goal.returns-else-size-eq0-clause-bits
returns-else-size-eq0-clause-bits c = λ i. ap (λ n. is_under n i) (shifted_ones c.args.offset c.args.size c.requires)
    ∙ bits_of_mask c.args.offset c.args.size i
