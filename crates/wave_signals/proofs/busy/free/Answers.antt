use Rattle.std.proofs.Common.{rules}
use Rattle.std.proofs.lemmas.Fn.{filter_same}
use Rattle.wave_signals.specs.Wave.{is_other}
use Rattle.wave_signals.proofs.busy.free.Goals as goal

pub returns : goal.returns
returns c = filter_same _ (is_other c.args.port c.args.tag) _ (λ x b f' k. search rules) _ _ c.retain.ensures.filtered
