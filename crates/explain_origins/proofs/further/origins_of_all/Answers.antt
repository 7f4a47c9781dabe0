use Rattle.std.proofs.Common.{◌<◌, ◌≤◌, List, length, get_or, take, sym, subst, arith, refl}
use Rattle.std.proofs.lemmas.List.{take_more, take_all}
use Rattle.explain_origins.specs.declared.parts.StatePart.{StatePart}
use Rattle.explain_origins.specs.declared.parts.StatePart.TheVariants.{LinesOfSet1}
use Rattle.explain_origins.specs.Further.{AreOf}
use Rattle.explain_origins.proofs.FurtherLemmas.{of_more}
use Rattle.explain_origins.proofs.further.origins_of_all.Goals as goal

pub loop-part-preserved : goal.loop-part-preserved
loop-part-preserved c =
    let shape = c.args.shape.now in
    let rs = c.args.records.now.records in
    let before = c.args.before.now in
    let parts = c.args.parts.now in
    let i = c.loop-part.part-index in
    let lt : i < length parts = c.loop-part-test.true in
    let d : StatePart = LinesOfSet1 0 in
    let part = get_or parts i d in
    subst (λ (ps : List StatePart). AreOf shape rs before ps c.push.new.self.items) (sym (take_more parts i d lt))
    (of_more shape rs before (take i parts) c.loop-part.all.items c.push.new.self.items _ part c.loop-part.invariant
    refl c.in_ok-records_in.ensures c.in_ok-push.ensures.items)

pub returns : goal.returns
returns c =
    let shape = c.args.shape.now in
    let rs = c.args.records.now.records in
    let before = c.args.before.now in
    let parts = c.args.parts.now in
    let whole : length parts ≤ c.loop-part.part-index = omega
    (arith, c.loop-part-test.false, c.loop-part.auto.part-index-end) in
    subst (λ (ps : List StatePart). AreOf shape rs before ps c.loop-part.all.items)
    (take_all c.loop-part.part-index parts whole) c.loop-part.invariant
