use Rattle.std.proofs.Common.{not, ◌==◌, rules}
use Rattle.std.proofs.lemmas.Fn.{filter_same}
use Rattle.explain_origins.specs.declared.standing.Begun.{Begun}
use Rattle.explain_origins.proofs.standing.remove.Goals as goal

pub returns : goal.returns
returns c = filter_same _ (λ (one : Begun). not (one.key == c.args.key)) _ (λ x b f' k. search rules) _ _
    c.retain.ensures.filtered
