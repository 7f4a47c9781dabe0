use Rattle.std.proofs.Common.{rules}
use Rattle.std.proofs.lemmas.Fn.{filter_same}
use Rattle.explain_origins.specs.Further.{wrote}
use Rattle.explain_origins.proofs.further.keep_told.Goals as goal

pub returns-in-LaterStores : goal.returns-in-LaterStores
returns-in-LaterStores c = rw c.in-LaterStores.is
    (filter_same _ (wrote c.args.records.now.records c.in-LaterStores.address c.in-LaterStores.value) _
    (λ x b f' k. search rules) _ _ c.retain.ensures.filtered)
