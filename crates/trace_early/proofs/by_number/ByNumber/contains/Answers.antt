use Rattle.std.proofs.Common.{◌≡◌, ◌∙◌, sym, ap, is_some}
use Rattle.trace_early.specs.Table.{place_for, slot_for, numbered_as}
use Rattle.trace_early.proofs.Slots.{Slots}
use Rattle.trace_early.proofs.Tables.{Items, items_of, contained_first, contained_aside}
use Rattle.trace_early.proofs.by_number.ByNumber.contains.Goals as goal

pub returns-then-is_some : goal.returns-then-is_some
returns-then-is_some c =
    let t = c.self.inside in
    let n = c.args.number in
    let place : place_for n (slot_for t.slots.items n) ≡ c.place_in.result =
    ap (λ (slots : Slots). place_for n (slot_for slots n)) (sym c.deref.ensures.value) ∙ sym c.place_in.ensures in
    c.if-is_some.true
    ∙ sym (ap (λ (items : Items). is_some (numbered_as n items)) (sym c.self.view_is)
    ∙ contained_first t.slots.items t.chunks (items_of t.aside.entries) c.self.invariant.own n
    (ap is_some place ∙ sym c.is_some.ensures ∙ c.if-is_some.true))

pub returns-else-is_some : goal.returns-else-is_some
returns-else-is_some c =
    let t = c.self.inside in
    let n = c.args.number in
    let place : place_for n (slot_for t.slots.items n) ≡ c.place_in.result =
    ap (λ (slots : Slots). place_for n (slot_for slots n)) (sym c.deref.ensures.value) ∙ sym c.place_in.ensures in
    c.is_aside.ensures
    ∙ sym (ap (λ (items : Items). is_some (numbered_as n items)) (sym c.self.view_is)
    ∙ contained_aside t.slots.items t.chunks t.aside.entries c.self.invariant.own n
    (ap is_some place ∙ sym c.is_some.ensures ∙ c.if-is_some.false))
