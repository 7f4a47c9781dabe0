use Rattle.std.proofs.Common.{ℕ, List, Option, IfOk, subst}
use Rattle.explain_origins.specs.declared.parts.StatePart.{StatePart}
use Rattle.explain_origins.specs.Origins.{part_of, AreOriginsOfAny}
use Rattle.explain_origins.proofs.origins.origins_of.Goals as goal

pub returns : goal.returns
returns c =
    let shape = c.args.shape.now in
    let rs = c.args.records.now.records in
    let broken = c.args.broken in
    let result = c.origins_in.result in
    let part : Option StatePart = part_of shape broken.rule broken.address broken.item.now in
    let of_part =
    subst (λ (p : Option StatePart). IfOk result (AreOriginsOfAny shape rs c.seen_by-seen.result.now p))
    c.part_of.ensures c.origins_in.ensures in
    subst (λ (seen : List (Option ℕ)). IfOk result (AreOriginsOfAny shape rs seen part)) c.seen_by-seen.ensures of_part
