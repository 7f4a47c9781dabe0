use Rattle.std.proofs.Common.{◌≡◌, None, ◌∙◌, rules}
use Rattle.std.specs.Cmp.{nat_eq_equiv}
use Rattle.std.specs.Map.Iter.{deref_pair}
use Rattle.std.proofs.lemmas.Map.Iter.{hash_map_turn}
use Rattle.bank_cells.specs.Index.{found_in}
use Rattle.bank_cells.proofs.TwoParts.{copied, none_found}
use Rattle.bank_cells.proofs.index.copy_near.Goals as goal

pub add-requires : goal.add-requires
add-requires c = none_found c.find.result _ c.find.ensures c.if-is_none.ensures

pub loop-block-preserved-then-is_none : goal.loop-block-preserved-then-is_none
loop-block-preserved-then-is_none c =
    let far = c.args.far.now in
    let gives = c.into_iter-block-iterator.ensures.into_iter_gives in
    let turn = hash_map_turn deref_pair c.loop-block.yielded c.into_iter-block-iterator.result
    c.loop-block.block-iterator c.next.new.self c.next.result (c.in-Some.block, c.in-Some.place)
    c.loop-block.yielded_by c.in-Some.is c.next.ensures.steps nat_eq_equiv far
    (search (gives, rules)) (search (gives, rules)) in
    let none : found_in c.loop-block.near c.in-Some.block.now ≡ None =
    none_found c.find.result _ c.find.ensures c.if-is_none.ensures in
    copied c.loop-block.near c.add.new.self far.entries c.in-Some.block.now c.in-Some.place.now none turn.1
    c.add.result c.add.ensures.added c.add.ensures.other ∙ c.loop-block.invariant
