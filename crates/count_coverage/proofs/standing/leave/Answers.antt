use Rattle.std.proofs.Common.{not, ◌==◌, rules}
use Rattle.std.proofs.lemmas.Fn.{filter_same}
use Rattle.count_coverage.specs.declared.request.Request.{Request}
use Rattle.count_coverage.proofs.standing.leave.Goals as goal

pub returns : goal.returns
returns c = filter_same _ (λ (request : Request). not (request.block == c.args.block)) _ (λ x b f' k. search rules) _
    _ c.retain.ensures.filtered
