use Rattle.std.proofs.Common.{not, rules}
use Rattle.std.proofs.lemmas.Fn.{filter_same}
use Rattle.wave_traffic.specs.declared.bank.Fetched.{Fetched}
use Rattle.wave_traffic.specs.Flow.{is_second}
use Rattle.wave_traffic.proofs.bank.drop_second.Goals as goal

pub returns : goal.returns
returns c = filter_same _ (λ (f : Fetched). not (is_second c.args.second f)) _ (λ x b f' k. search rules) _ _
    c.retain.ensures.filtered
