use Rattle.std.proofs.Common.{◌≡◌, ◌<◌, ◌%◌, ◌-◌, ◌++◌, ℕ, length, get_or, set, Option, Some, None, ◌∙◌, sym, ap, subst}
use Rattle.std.proofs.Common.{arith, is_some, length-append, option_map, true}
use Rattle.trace_early.specs.Table.{place_for, slot_for, numbered_as, item_in, numbered, entries, placed, IsTable}
use Rattle.trace_early.proofs.Slots.{Slots, within, place_is}
use Rattle.trace_early.proofs.Tables.{Items, items_of, at_aside, IsTable-gone, gone-own, gone-others, gone-fewer}
use Rattle.trace_early.proofs.Tables.{counts_one, keeps_with, IsTable-aside, numbered-aside, items_same, at_items}
use Rattle.trace_early.proofs.Tables.{contained_aside, length_items}
use Rattle.trace_early.proofs.by_number.ByNumber.drop.Goals as goal

-- the slot of a number that has a place
slot_of_place : (slots : Slots) (n p slot : ℕ) → n % length slots ≡ slot → place_for n (slot_for slots n) ≡ Some p
    → slot < length slots
slot_of_place slots n p slot at has = within slots slot (n, p)
    (ap (λ k. get_or slots k None) (sym at) ∙ place_is n p (slot_for slots n) has)

pub overflow_sub-self : goal.overflow_sub-self
overflow_sub-self c =
    let t = c.self.inside in
    let n = c.args.number in
    let p = c.in-Some.place in
    let slots = t.slots.items in
    let slot = c.slot_of-slot.result in
    let at : n % length slots ≡ slot =
    sym (c.slot_of-slot.ensures ∙ ap (λ k. n % k) (c.len.ensures ∙ t.slots.ok.0)) in
    let has : place_for n (slot_for slots n) ≡ Some p =
    ap (λ (all : Slots). place_for n (slot_for all n)) (sym c.deref.ensures.value) ∙ sym c.place_in.ensures
    ∙ c.in-Some.is in
    let one = counts_one slots t.taken t.chunks (items_of t.aside.entries) c.self.invariant n p slot
    (slot_of_place slots n p slot at has) at has in
    omega (arith, one, c.self.invariant.counted)

pub drop-requires : goal.drop-requires
drop-requires c =
    let t = c.self.inside in
    let n = c.args.number in
    let p = c.in-Some.place in
    let slots = t.slots.items in
    let slot = c.slot_of-slot.result in
    let at : n % length slots ≡ slot =
    sym (c.slot_of-slot.ensures ∙ ap (λ k. n % k) (c.len.ensures ∙ t.slots.ok.0)) in
    let has : place_for n (slot_for slots n) ≡ Some p =
    ap (λ (all : Slots). place_for n (slot_for all n)) (sym c.deref.ensures.value) ∙ sym c.place_in.ensures
    ∙ c.in-Some.is in (
      item_in t.chunks p,
      placed t.chunks (entries (set slots slot None)),
      keeps_with slots t.taken t.chunks (items_of t.aside.entries) c.self.invariant n p slot
          (slot_of_place slots n p slot at has) at has,
    )

pub invariant_of-self : goal.invariant_of-self
invariant_of-self c =
    let t = c.self.inside in
    let n = c.args.number in
    let p = c.in-Some.place in
    let slots = t.slots.items in
    let slot = c.slot_of-slot.result in
    let at : n % length slots ≡ slot =
    sym (c.slot_of-slot.ensures ∙ ap (λ k. n % k) (c.len.ensures ∙ t.slots.ok.0)) in
    let has : place_for n (slot_for slots n) ≡ Some p =
    ap (λ (all : Slots). place_for n (slot_for all n)) (sym c.deref.ensures.value) ∙ sym c.place_in.ensures
    ∙ c.in-Some.is in
    let below = slot_of_place slots n p slot at has in
    let aside = items_of t.aside.entries in
    subst (λ (o : Option (ℕ × ℕ)). IsTable (set slots slot o) (t.taken - 1) c.drop.new.self aside) (sym c.empty.ensures)
    (IsTable-gone slots t.taken t.chunks aside c.self.invariant n p slot below at has c.drop.new.self
    (c.drop.ensures (item_in t.chunks p) (placed t.chunks (entries (set slots slot None)))
    (keeps_with slots t.taken t.chunks aside c.self.invariant n p slot below at has)))

pub returns-in-Some-clause-gone : goal.returns-in-Some-clause-gone
returns-in-Some-clause-gone c =
    let t = c.self.inside in
    let n = c.args.number in
    let p = c.in-Some.place in
    let slots = t.slots.items in
    let slot = c.slot_of-slot.result in
    let at : n % length slots ≡ slot =
    sym (c.slot_of-slot.ensures ∙ ap (λ k. n % k) (c.len.ensures ∙ t.slots.ok.0)) in
    let has : place_for n (slot_for slots n) ≡ Some p =
    ap (λ (all : Slots). place_for n (slot_for all n)) (sym c.deref.ensures.value) ∙ sym c.place_in.ensures
    ∙ c.in-Some.is in
    let below = slot_of_place slots n p slot at has in
    let aside = items_of t.aside.entries in
    subst (λ (o : Option (ℕ × ℕ)). numbered_as n (numbered c.drop.new.self (entries (set slots slot o)) ++ aside)
    ≡ None) (sym c.empty.ensures)
    (gone-own slots t.taken t.chunks aside c.self.invariant n p slot below at has c.drop.new.self
    (c.drop.ensures (item_in t.chunks p) (placed t.chunks (entries (set slots slot None)))
    (keeps_with slots t.taken t.chunks aside c.self.invariant n p slot below at has)))

pub returns-in-Some-clause-others : goal.returns-in-Some-clause-others
returns-in-Some-clause-others c k other =
    let t = c.self.inside in
    let n = c.args.number in
    let p = c.in-Some.place in
    let slots = t.slots.items in
    let slot = c.slot_of-slot.result in
    let at : n % length slots ≡ slot =
    sym (c.slot_of-slot.ensures ∙ ap (λ k. n % k) (c.len.ensures ∙ t.slots.ok.0)) in
    let has : place_for n (slot_for slots n) ≡ Some p =
    ap (λ (all : Slots). place_for n (slot_for all n)) (sym c.deref.ensures.value) ∙ sym c.place_in.ensures
    ∙ c.in-Some.is in
    let below = slot_of_place slots n p slot at has in
    let aside = items_of t.aside.entries in
    subst (λ (o : Option (ℕ × ℕ)). numbered_as k (numbered c.drop.new.self (entries (set slots slot o)) ++ aside)
    ≡ numbered_as k c.args.self.now)
    (sym c.empty.ensures)
    (gone-others slots t.taken t.chunks aside c.self.invariant n p slot below at has c.drop.new.self
    (c.drop.ensures (item_in t.chunks p) (placed t.chunks (entries (set slots slot None)))
    (keeps_with slots t.taken t.chunks aside c.self.invariant n p slot below at has)) k other
    ∙ ap (λ (items : Items). numbered_as k items) c.self.view_is)

pub returns-in-Some-clause-fewer : goal.returns-in-Some-clause-fewer
returns-in-Some-clause-fewer c _ =
    let t = c.self.inside in
    let n = c.args.number in
    let p = c.in-Some.place in
    let slots = t.slots.items in
    let slot = c.slot_of-slot.result in
    let at : n % length slots ≡ slot =
    sym (c.slot_of-slot.ensures ∙ ap (λ k. n % k) (c.len.ensures ∙ t.slots.ok.0)) in
    let has : place_for n (slot_for slots n) ≡ Some p =
    ap (λ (all : Slots). place_for n (slot_for all n)) (sym c.deref.ensures.value) ∙ sym c.place_in.ensures
    ∙ c.in-Some.is in
    let below = slot_of_place slots n p slot at has in
    let aside = items_of t.aside.entries in
    subst (λ (o : Option (ℕ × ℕ)). length (numbered c.drop.new.self (entries (set slots slot o)) ++ aside)
    < length c.args.self.now)
    (sym c.empty.ensures)
    (subst (λ (items : Items). length (numbered c.drop.new.self (entries (set slots slot None)) ++ aside)
    < length items)
    c.self.view_is
    (gone-fewer slots t.taken t.chunks aside c.self.invariant n p slot below at has c.drop.new.self
    (c.drop.ensures (item_in t.chunks p) (placed t.chunks (entries (set slots slot None)))
    (keeps_with slots t.taken t.chunks aside c.self.invariant n p slot below at has))))

pub invariant_of-self-in-None : goal.invariant_of-self-in-None
invariant_of-self-in-None c =
    let t = c.self.inside in
    let n = c.args.number in
    let none : place_for n (slot_for t.slots.items n) ≡ None =
    ap (λ (all : Slots). place_for n (slot_for all n)) (sym c.deref.ensures.value) ∙ sym c.place_in.ensures
    ∙ c.in-None.is in
    IsTable-aside t.slots.items t.taken t.chunks (items_of t.aside.entries) (items_of c.drop_aside.new.aside.entries)
    c.self.invariant n none
    (λ k other. items_same t.aside.entries c.drop_aside.new.aside.entries k (c.drop_aside.ensures.others k other))

pub returns-in-None-clause-gone : goal.returns-in-None-clause-gone
returns-in-None-clause-gone c =
    let t = c.self.inside in
    let n = c.args.number in
    let none : place_for n (slot_for t.slots.items n) ≡ None =
    ap (λ (all : Slots). place_for n (slot_for all n)) (sym c.deref.ensures.value) ∙ sym c.place_in.ensures
    ∙ c.in-None.is in
    at_aside t.slots.items t.chunks (items_of c.drop_aside.new.aside.entries) c.self.invariant.own n none
    ∙ at_items c.drop_aside.new.aside.entries n
    ∙ ap (λ o. option_map (λ bytes. bytes.items) o) c.drop_aside.ensures.gone

pub returns-in-None-clause-others : goal.returns-in-None-clause-others
returns-in-None-clause-others c k other =
    let t = c.self.inside in
    numbered-aside t.slots.items t.chunks (items_of t.aside.entries) (items_of c.drop_aside.new.aside.entries)
    c.self.invariant.own k
    (items_same t.aside.entries c.drop_aside.new.aside.entries k (c.drop_aside.ensures.others k other))
    ∙ ap (λ (items : Items). numbered_as k items) c.self.view_is

pub returns-in-None-clause-fewer : goal.returns-in-None-clause-fewer
returns-in-None-clause-fewer c some =
    let t = c.self.inside in
    let n = c.args.number in
    let none : place_for n (slot_for t.slots.items n) ≡ None =
    ap (λ (all : Slots). place_for n (slot_for all n)) (sym c.deref.ensures.value) ∙ sym c.place_in.ensures
    ∙ c.in-None.is in
    let there : is_some (numbered_as n t.aside.entries) ≡ true =
    sym (contained_aside t.slots.items t.chunks t.aside.entries c.self.invariant.own n (ap is_some none))
    ∙ ap (λ (items : Items). is_some (numbered_as n items)) c.self.view_is ∙ some in
    omega (
      arith,
      c.drop_aside.ensures.fewer there,
      length_items t.aside.entries,
      length_items c.drop_aside.new.aside.entries,
      length-append (numbered t.chunks (entries t.slots.items)) (items_of t.aside.entries),
      length-append (numbered t.chunks (entries t.slots.items)) (items_of c.drop_aside.new.aside.entries),
      ap length c.self.view_is,
    )
