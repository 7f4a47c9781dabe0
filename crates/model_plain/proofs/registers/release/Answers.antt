use Rattle.std.proofs.Common.{rules, ◌==◌, not}
use Rattle.std.proofs.lemmas.Fn.{filter_same}
use Rattle.model_plain.proofs.registers.release.Goals as goal

pub returns : goal.returns
returns g c = filter_same _ (λ h. not (h.block == c.args.block)) _ (λ x b f' k. search rules) _ _
    c.retain.ensures.filtered
