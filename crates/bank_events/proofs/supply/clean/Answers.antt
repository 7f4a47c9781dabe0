use Rattle.std.proofs.Common.{◌≡◌, ◌+◌, ◌*◌, ◌<◌, ap, ◌∙◌, add-one, arith}
use Rattle.lf_rules.specs.State.{update}
use Rattle.bank_events.proofs.Places.{factor_some}
use Rattle.bank_events.proofs.Supplied.{cleared, cleared_all}
use Rattle.bank_events.proofs.supply.clean.Goals as goal

pub clear_dirty-requires : goal.clear_dirty-requires
clear_dirty-requires c =
    let second = c.requires.there.second in
    let block = second * c.args.cells.now.factor + c.loop-part.part in
    let below : c.loop-part.part < c.args.cells.now.factor = omega arith in
    record {
      block = block;
      found = (λ i. c.loop-part.invariant.placed.cells i block)
          ∙ c.first_of-first.ensures.cells second c.loop-part.part c.requires.there.found below;
    }

pub loop-part-preserved : goal.loop-part-preserved
loop-part-preserved c =
    let part = c.loop-part.part in
    let factor = c.args.cells.now.factor in
    let below : part < factor = omega arith in
    let old = c.loop-part.invariant in
    let set = c.clear_dirty.ensures in record {
      dirty = λ second there.
          let block = second * factor + part in
          let found = (λ i. old.placed.cells i block) ∙ c.first_of-first.ensures.cells second part there below in
          rw add-one (set.dirty block found
          ∙ (λ i. update (old.dirty second there i) (second * c.requires.factor i + part) 0));
      first = set.first ∙ old.first;
      written = set.written ∙ old.written;
      memory = set.memory ∙ old.memory;
      second = set.second ∙ old.second;
      placed = record {
        factor = set.placed.factor ∙ old.placed.factor;
        places = set.placed.places ∙ old.placed.places;
        cells = set.placed.cells ∙ old.placed.cells;
      };
    }

pub returns-clause-dirty : goal.returns-clause-dirty
returns-clause-dirty c = λ second there.
    let shape = c.args.shape.now in
    let end : c.loop-part.part ≡ shape.factor = omega arith in
    c.loop-part.invariant.dirty second there
    ∙ ap (cleared _ (second * shape.factor)) end
    ∙ cleared_all shape _ second (factor_some shape.factor c.requires.in_range.factor)
