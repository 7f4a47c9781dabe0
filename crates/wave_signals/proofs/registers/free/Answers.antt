use Rattle.std.proofs.Common.{rules}
use Rattle.std.proofs.lemmas.Fn.{filter_same}
use Rattle.wave_signals.specs.Registers.{is_other_register}
use Rattle.wave_signals.proofs.registers.free.Goals as goal

pub returns : goal.returns
returns c = filter_same _ (is_other_register c.args.bank c.args.register) _ (λ x b f' k. search rules) _ _
    c.retain.ensures.filtered
