use Rattle.std.proofs.Common.{rules}
use Rattle.std.proofs.lemmas.Fn.{filter_same}
use Rattle.wave_signals.specs.Registers.{is_of_other_block}
use Rattle.wave_signals.proofs.registers.fill.Goals as goal

pub returns : goal.returns
returns c = filter_same _ (is_of_other_block c.args.bank c.args.block) _ (λ x b f' k. search rules) _ _
    c.retain.ensures.filtered
