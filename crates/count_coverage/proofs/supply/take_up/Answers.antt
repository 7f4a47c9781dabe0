use Rattle.std.proofs.Common.{not, ◌==◌, rules}
use Rattle.std.proofs.lemmas.Fn.{filter_same}
use Rattle.count_coverage.specs.declared.supply.Asked.{Asked}
use Rattle.count_coverage.proofs.supply.take_up.Goals as goal

pub returns : goal.returns
returns c = filter_same _ (λ (asked : Asked). not (asked.block == c.args.block)) _ (λ x b f' k. search rules) _ _
    c.retain.ensures.filtered
