use Rattle.std.proofs.Common.{not, ◌==◌, rules}
use Rattle.std.proofs.lemmas.Fn.{filter_same}
use Rattle.count_coverage.specs.declared.supply.Asked.{Asked}
use Rattle.count_coverage.proofs.standing.leave2.Goals as goal

pub returns : goal.returns
returns c = filter_same _ (λ (asked : Asked). not (asked.second == c.args.second)) _ (λ x b f' k. search rules) _ _
    c.retain.ensures.filtered
