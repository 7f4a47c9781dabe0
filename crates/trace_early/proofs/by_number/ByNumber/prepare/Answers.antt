use Rattle.std.proofs.Common.{◌∙◌, ap, length}
use Rattle.std.proofs.lemmas.List.Sorted.{length_permutation}
use Rattle.trace_early.specs.Table.{numbered_as, entries}
use Rattle.trace_early.proofs.Tables.{Items, items_of, IsTable-moved, numbered-moved, as_many_items}
use Rattle.trace_early.proofs.by_number.ByNumber.prepare.Goals as goal

pub invariant_of-self : goal.invariant_of-self
invariant_of-self c =
    let t = c.self.inside in
    IsTable-moved t.slots.items c.make_room.new.slots.items t.taken t.chunks (items_of t.aside.entries) c.self.invariant
    c.make_room.ensures.own c.make_room.ensures.sized c.make_room.ensures.same

pub returns-clause-same : goal.returns-clause-same
returns-clause-same c k =
    let t = c.self.inside in
    numbered-moved t.slots.items c.make_room.new.slots.items t.chunks (items_of t.aside.entries) c.self.invariant.own
    c.make_room.ensures.own c.make_room.ensures.same k
    ∙ ap (λ (items : Items). numbered_as k items) c.self.view_is

pub returns-clause-as_many : goal.returns-clause-as_many
returns-clause-as_many c =
    let t = c.self.inside in
    let more = c.make_room.new.slots.items in
    as_many_items t.slots.items more t.chunks t.chunks (items_of t.aside.entries)
    (length_permutation (entries t.slots.items) (entries more) c.make_room.ensures.same)
    ∙ ap length c.self.view_is
