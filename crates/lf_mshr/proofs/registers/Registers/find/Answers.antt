use Rattle.lf_mshr.specs.Places.{held_of}
use Rattle.lf_mshr.proofs.Find.{found-none, found-below, found-holds, shown-long}
use Rattle.lf_mshr.proofs.registers.Registers.find.Goals as goal

pub slice_bounds-marks_of-end : goal.slice_bounds-marks_of-end
slice_bounds-marks_of-end g c =
    let file = c.args.self.now in
    let reach = c.reach-count.ensures in
    shown-long file.registers file.used file.blocks.items (held_of file.places.order) file.index c.args.block 0
    c.reach-count.result c.deref.result.now c.deref.ensures.value reach.few reach.last reach.behind

pub returns-then-holding-eq0-clause-none : goal.returns-then-holding-eq0-clause-none
returns-then-holding-eq0-clause-none g c =
    let file = c.args.self.now in
    let reach = c.reach-count.ensures in
    found-none file.registers file.used file.blocks.items (held_of file.places.order) file.index c.args.block
    c.marks_of.result c.reach-count.result c.deref.result.now c.deref.ensures.value reach.few reach.last reach.behind
    c.marks_of.ensures file.below c.if-holding-eq0.true

pub returns-clause-some : goal.returns-clause-some
returns-clause-some g c =
    let file = c.args.self.now in
    let reach = c.reach-count.ensures in
    let below = found-below file.registers file.used file.blocks.items (held_of file.places.order) file.index
    c.args.block c.marks_of.result c.reach-count.result c.deref.result.now c.deref.ensures.value reach.few reach.last
    reach.behind c.marks_of.ensures c.if-holding-eq0.false c.marks_of.type_inv in
    let holds = found-holds file.registers file.used file.blocks.items (held_of file.places.order) file.index
    c.args.block c.marks_of.result c.reach-count.result c.deref.result.now c.deref.ensures.value reach.few reach.last
    reach.behind c.marks_of.ensures c.if-holding-eq0.false c.marks_of.type_inv in
    (below, holds)
