use Rattle.std.proofs.Common.{List, not, filter, ap, ◌∙◌, rules}
use Rattle.std.proofs.lemmas.Fn.{filter_same}
use Rattle.explain_origins.specs.declared.parts.StatePart.TheVariants.{Held2}
use Rattle.explain_origins.specs.declared.standing.Origin.{Origin}
use Rattle.explain_origins.specs.Further.{is_among}
use Rattle.explain_origins.specs.Origins.{steps, standing}
use Rattle.explain_origins.specs.Requests.{none_waits}
use Rattle.explain_origins.proofs.further.supplied.Goals as goal

pub returns : goal.returns
returns c =
    let shape = c.args.shape.now in
    let all = steps shape none_waits c.args.records.now.records c.args.before.now in
    let held = c.in_ok-held.held.items in
    let found = c.in_ok-all.all.items in
    filter_same _ (λ (origin : Origin). not (is_among held origin)) _ (λ x b f' k. search rules) _ _
    c.retain.ensures.filtered
    ∙ ap (λ (os : List Origin). filter (λ origin. not (is_among os origin)) found) c.in_ok-held.ensures
    ∙ ap (λ (os : List Origin). filter (λ origin. not (is_among (standing shape Held2 all) origin)) os)
    c.in_ok-all.ensures
