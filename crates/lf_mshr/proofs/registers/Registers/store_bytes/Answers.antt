use Rattle.std.proofs.Common.{sym, ap, ◌∙◌, arith, get_or}
use Rattle.std.proofs.lemmas.List.{get_or_default}
use Rattle.lf_mshr.specs.Index.{stored_bytes}
use Rattle.lf_mshr.specs.Places.{held_of}
use Rattle.lf_mshr.proofs.Indexed.{targets-none}
use Rattle.lf_mshr.proofs.Stored.{stored-found}
use Rattle.lf_mshr.proofs.registers.Registers.store_bytes.Goals as goal

pub returns-in-Some : goal.returns-in-Some
returns-in-Some g c =
    let file = c.args.self.now in
    let at = c.in-Some.register in
    let there = c.in-Some.ensures.some.0 in
    let long = file.stored.long in
    c.index.ensures ∙ ap (λ i. get_or file.stores.items i c.index.result.now) c.from.ensures
    ∙ get_or_default file.stores.items at c.index.result.now 0 (omega (arith, there, long))
    ∙ stored-found g.T.Target.is_store g.T.Target.bytes file.registers file.stores.items (held_of file.places.order)
    file.stored file.used file.blocks.items file.index at c.args.block there c.in-Some.ensures.some.1 file.once

pub returns-in-None : goal.returns-in-None
returns-in-None g c =
    let held = held_of c.args.self.now.places.order in
    sym (ap (stored_bytes g.T.Target.is_store g.T.Target.bytes) (targets-none held c.args.block
    c.in-None.ensures.none))
