use Rattle.std.proofs.Common.{◌/◌, sym, ap, ◌∙◌}
use Rattle.bank_cells.specs.Cells.{second_at}
use Rattle.bank_events.proofs.HeldIn.{second_some, second_none}
use Rattle.bank_events.proofs.bank.Bank.second_stall.Goals as goal

pub has_room2-requires-clause-some : goal.has_room2-requires-clause-some
has_room2-requires-clause-some g c =
    let steady = rw (← c.self.view_is) at c.requires in
    let asked = rw (← c.self.view_is) at c.in-Some.ensures.some in
    second_some _ steady c.second_of-second.result c.second_of-now.result c.second_holder_of-holder.result
    (c.second_of-now.ensures c.args.block asked.0
    ∙ (λ i. second_at c.self.inside.cells (c.args.block / c.self.invariant.framed.factor i))
    ∙ ap (second_at c.self.inside.cells) (sym c.second_of-second.ensures))
    c.second_holder_of-holder.ensures.some

pub has_room2-requires-clause-none : goal.has_room2-requires-clause-none
has_room2-requires-clause-none g c =
    let steady = rw (← c.self.view_is) at c.requires in
    let asked = rw (← c.self.view_is) at c.in-Some.ensures.some in
    second_none _ steady c.second_of-second.result c.second_of-now.result c.second_holder_of-holder.result
    (c.second_of-now.ensures c.args.block asked.0
    ∙ (λ i. second_at c.self.inside.cells (c.args.block / c.self.invariant.framed.factor i))
    ∙ ap (second_at c.self.inside.cells) (sym c.second_of-second.ensures))
    c.second_holder_of-holder.ensures.none
