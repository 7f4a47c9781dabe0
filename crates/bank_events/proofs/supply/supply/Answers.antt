use Rattle.std.proofs.Common.{◌+◌, ◌*◌, Some, sym, ◌∙◌, add-one}
use Rattle.bank_events.proofs.Supplied.{supplied_more}
use Rattle.bank_events.proofs.supply.supply.Goals as goal

pub set_first-requires : goal.set_first-requires
set_first-requires c =
    let position = c.loop-target-item.result.1.position in
    let block = c.requires.there.second * c.args.cells.now.factor + position in
    let below = c.requires.inside c.loop-target.target-index c.loop-target-item.result c.loop-target-test.true
    c.loop-target-item.is in
    record {
      block = block;
      found = (λ i. c.loop-target.invariant.placed.cells i block)
          ∙ c.first_of-first.ensures.cells c.requires.there.second position c.requires.there.found below
          ∙ (λ i. Some (c.first_of-first.result + sym c.from.ensures i));
    }

pub loop-target-preserved : goal.loop-target-preserved
loop-target-preserved c =
    let item = c.loop-target-item.result in
    let factor = c.args.cells.now.factor in
    let below = c.requires.inside c.loop-target.target-index item c.loop-target-test.true c.loop-target-item.is in
    let old = c.loop-target.invariant in
    let set = c.set_first.ensures in record {
      first = λ second there.
          let block = second * factor + item.1.position in
          let found = (λ i. old.placed.cells i block)
          ∙ c.first_of-first.ensures.cells second item.1.position there below
          ∙ (λ i. Some (c.first_of-first.result + sym c.from.ensures i)) in
          rw add-one (supplied_more (second * factor) c.args.targets.now c.loop-target.target-index item _ _ _
          c.loop-target-test.true c.loop-target-item.is (set.first block found) (old.first second there));
      written = set.written ∙ old.written;
      dirty = set.dirty ∙ old.dirty;
      memory = set.memory ∙ old.memory;
      second = set.second ∙ old.second;
      placed = record {
        factor = set.placed.factor ∙ old.placed.factor;
        places = set.placed.places ∙ old.placed.places;
        cells = set.placed.cells ∙ old.placed.cells;
      };
    }
