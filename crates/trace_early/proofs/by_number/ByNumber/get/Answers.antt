use Rattle.std.proofs.Common.{◌≡◌, Some, None, ◌∙◌, sym, ap}
use Rattle.trace_early.specs.Table.{place_for, slot_for, numbered_as, item_in}
use Rattle.trace_early.proofs.Slots.{Slots}
use Rattle.trace_early.proofs.Tables.{Items, items_of, at_items, at_place, at_aside, stands_at}
use Rattle.trace_early.proofs.by_number.ByNumber.get.Goals as goal

pub get-requires : goal.get-requires
get-requires c =
    let t = c.self.inside in
    let n = c.args.number in
    let place : place_for n (slot_for t.slots.items n) ≡ Some c.in-Some.place =
    ap (λ (slots : Slots). place_for n (slot_for slots n)) (sym c.deref.ensures.value) ∙ sym c.place_in.ensures
    ∙ c.in-Some.is in
    (item_in t.chunks c.in-Some.place, stands_at t.slots.items t.chunks c.self.invariant.keeps n c.in-Some.place place)

pub returns-in-Some : goal.returns-in-Some
returns-in-Some c =
    let t = c.self.inside in
    let n = c.args.number in
    let p = c.in-Some.place in
    let place : place_for n (slot_for t.slots.items n) ≡ Some p =
    ap (λ (slots : Slots). place_for n (slot_for slots n)) (sym c.deref.ensures.value) ∙ sym c.place_in.ensures
    ∙ c.in-Some.is in
    ap Some (c.get.ensures (item_in t.chunks p) (stands_at t.slots.items t.chunks c.self.invariant.keeps n p place))
    ∙ sym (ap (λ (items : Items). numbered_as n items) (sym c.self.view_is)
    ∙ at_place t.slots.items t.chunks (items_of t.aside.entries) c.self.invariant.own n p place)

pub returns-in-None : goal.returns-in-None
returns-in-None c =
    let t = c.self.inside in
    let n = c.args.number in
    let place : place_for n (slot_for t.slots.items n) ≡ None =
    ap (λ (slots : Slots). place_for n (slot_for slots n)) (sym c.deref.ensures.value) ∙ sym c.place_in.ensures
    ∙ c.in-None.is in
    c.find_aside.ensures
    ∙ sym (ap (λ (items : Items). numbered_as n items) (sym c.self.view_is)
    ∙ at_aside t.slots.items t.chunks (items_of t.aside.entries) c.self.invariant.own n place
    ∙ at_items t.aside.entries n)
