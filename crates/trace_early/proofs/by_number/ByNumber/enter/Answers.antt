use Rattle.std.proofs.Common.{◌≡◌, ◌<◌, ◌%◌, ◌+◌, ◌++◌, ℕ, length, get_or, set, Option, Some, None, ◌∙◌, sym, ap}
use Rattle.std.proofs.Common.{subst, refl, arith}
use Rattle.std.proofs.lemmas.Nat.{mod_below}
use Rattle.std.proofs.lemmas.Result.{err_from_is_err_and}
use Rattle.trace_early.specs.Table.{place_for, slot_for, numbered_as, numbered, entries, placed, IsTable}
use Rattle.trace_early.proofs.Slots.{Slots, length_entries}
use Rattle.trace_early.proofs.Tables.{Items, items_of, at_aside, at_items, items_same, no_place, none_aside}
use Rattle.trace_early.proofs.Tables.{IsTable-aside, numbered-aside, IsTable-next, same_numbered, IsTable-put, put-own}
use Rattle.trace_early.proofs.Tables.{put-others, as_many_items}
use Rattle.trace_early.proofs.by_number.ByNumber.enter.Goals as goal

pub invariant_of-self-then-not-has_slot : goal.invariant_of-self-then-not-has_slot
invariant_of-self-then-not-has_slot c =
    let t = c.self.inside in
    let n = c.args.number in
    let aside = items_of t.aside.entries in
    let none : place_for n (slot_for t.slots.items n) ≡ None = no_place t.slots.items t.chunks aside
    c.self.invariant.own n (ap (λ (items : Items). numbered_as n items) c.self.view_is ∙ c.requires.absent) in
    IsTable-aside t.slots.items t.taken t.chunks aside (items_of c.put_aside.new.aside.entries) c.self.invariant n none
    (λ k other. items_same t.aside.entries c.put_aside.new.aside.entries k (c.in_ok-put_aside.ensures.others k other))

pub returns-then-not-has_slot-clause-own : goal.returns-then-not-has_slot-clause-own
returns-then-not-has_slot-clause-own c =
    let t = c.self.inside in
    let n = c.args.number in
    let none : place_for n (slot_for t.slots.items n) ≡ None = no_place t.slots.items t.chunks
    (items_of t.aside.entries) c.self.invariant.own n
    (ap (λ (items : Items). numbered_as n items) c.self.view_is ∙ c.requires.absent) in
    at_aside t.slots.items t.chunks (items_of c.put_aside.new.aside.entries) c.self.invariant.own n none
    ∙ at_items c.put_aside.new.aside.entries n
    ∙ c.in_ok-put_aside.ensures.own

pub returns-then-not-has_slot-clause-others : goal.returns-then-not-has_slot-clause-others
returns-then-not-has_slot-clause-others c k other =
    let t = c.self.inside in
    numbered-aside t.slots.items t.chunks (items_of t.aside.entries) (items_of c.put_aside.new.aside.entries)
    c.self.invariant.own k
    (items_same t.aside.entries c.put_aside.new.aside.entries k (c.in_ok-put_aside.ensures.others k other))
    ∙ ap (λ (items : Items). numbered_as k items) c.self.view_is

pub invariant_of-self-in_err-place : goal.invariant_of-self-in_err-place
invariant_of-self-in_err-place c =
    let t = c.self.inside in
    IsTable-next t.slots.items t.taken t.chunks c.put.new.self (items_of t.aside.entries) c.self.invariant
    (c.in_err-place.ensures.refused (placed t.chunks (entries t.slots.items)) c.self.invariant.keeps)

pub returns-in_err-place-clause-unchanged : goal.returns-in_err-place-clause-unchanged
returns-in_err-place-clause-unchanged c =
    let t = c.self.inside in
    let keeps = c.in_err-place.ensures.refused (placed t.chunks (entries t.slots.items)) c.self.invariant.keeps in
    let p = err_from_is_err_and c.from_residual-in_err-place.result c.from_residual-in_err-place.ensures.1 in
    rw p.1 (λ k. ap (λ (items : Items). numbered_as k (items ++ items_of t.aside.entries))
    (same_numbered t.chunks c.put.new.self (entries t.slots.items) keeps.each)
    ∙ ap (λ (items : Items). numbered_as k items) c.self.view_is)

pub returns-in_err-place-clause-as_many : goal.returns-in_err-place-clause-as_many
returns-in_err-place-clause-as_many c =
    let t = c.self.inside in
    let p = err_from_is_err_and c.from_residual-in_err-place.result c.from_residual-in_err-place.ensures.1 in
    rw p.1 (as_many_items t.slots.items t.slots.items t.chunks c.put.new.self (items_of t.aside.entries) refl
    ∙ ap length c.self.view_is)

pub overflow_add-self : goal.overflow_add-self
overflow_add-self c =
    let slots = c.self.inside.slots in
    omega (arith, c.self.invariant.counted, length_entries slots.items, slots.ok.0, slots.small)

pub invariant_of-self-2 : goal.invariant_of-self-2
invariant_of-self-2 c =
    let t = c.self.inside in
    let n = c.args.number in
    let p = c.in_ok-place.place in
    let slots = t.slots.items in
    let slot = c.slot_of-slot.result in
    let aside = items_of t.aside.entries in
    let at : n % length slots ≡ slot =
    sym (c.slot_of-slot.ensures ∙ ap (λ k. n % k) (c.len.ensures ∙ t.slots.ok.0)) in
    let has : (0 < length slots) × (slot_for slots n ≡ None) = subst
    (λ (all : Slots). (0 < length all) × (slot_for all n ≡ None)) c.deref.ensures.value
    (c.has_slot.ensures.0 c.if-not-has_slot.false) in
    let below : slot < length slots = subst (λ (k : ℕ). k < length slots) at (mod_below n (length slots) has.0) in
    let free : get_or slots slot None ≡ None = ap (λ k. get_or slots k None) (sym at) ∙ has.1 in
    subst (λ (o : Option (ℕ × ℕ)). IsTable (set slots slot o) (t.taken + 1) c.put.new.self aside) (sym c.of.ensures)
    (IsTable-put slots t.taken t.chunks c.put.new.self aside c.self.invariant n p slot c.args.item.now below at free
    c.in_ok-place.ensures.one_more
    (none_aside slots t.chunks aside c.self.invariant.own n
    (ap (λ (items : Items). numbered_as n items) c.self.view_is ∙ c.requires.absent)))

pub returns-clause-own : goal.returns-clause-own
returns-clause-own c =
    let t = c.self.inside in
    let n = c.args.number in
    let p = c.in_ok-place.place in
    let slots = t.slots.items in
    let slot = c.slot_of-slot.result in
    let aside = items_of t.aside.entries in
    let at : n % length slots ≡ slot =
    sym (c.slot_of-slot.ensures ∙ ap (λ k. n % k) (c.len.ensures ∙ t.slots.ok.0)) in
    let has : (0 < length slots) × (slot_for slots n ≡ None) = subst
    (λ (all : Slots). (0 < length all) × (slot_for all n ≡ None)) c.deref.ensures.value
    (c.has_slot.ensures.0 c.if-not-has_slot.false) in
    let below : slot < length slots = subst (λ (k : ℕ). k < length slots) at (mod_below n (length slots) has.0) in
    let free : get_or slots slot None ≡ None = ap (λ k. get_or slots k None) (sym at) ∙ has.1 in
    subst (λ (o : Option (ℕ × ℕ)). numbered_as n (numbered c.put.new.self (entries (set slots slot o)) ++ aside)
    ≡ Some c.args.item.now) (sym c.of.ensures)
    (put-own slots t.taken t.chunks c.put.new.self aside c.self.invariant n p slot c.args.item.now below at free
    c.in_ok-place.ensures.one_more)

pub returns-clause-others : goal.returns-clause-others
returns-clause-others c k other =
    let t = c.self.inside in
    let n = c.args.number in
    let p = c.in_ok-place.place in
    let slots = t.slots.items in
    let slot = c.slot_of-slot.result in
    let aside = items_of t.aside.entries in
    let at : n % length slots ≡ slot =
    sym (c.slot_of-slot.ensures ∙ ap (λ k. n % k) (c.len.ensures ∙ t.slots.ok.0)) in
    let has : (0 < length slots) × (slot_for slots n ≡ None) = subst
    (λ (all : Slots). (0 < length all) × (slot_for all n ≡ None)) c.deref.ensures.value
    (c.has_slot.ensures.0 c.if-not-has_slot.false) in
    let below : slot < length slots = subst (λ (k : ℕ). k < length slots) at (mod_below n (length slots) has.0) in
    let free : get_or slots slot None ≡ None = ap (λ k. get_or slots k None) (sym at) ∙ has.1 in
    subst (λ (o : Option (ℕ × ℕ)). numbered_as k (numbered c.put.new.self (entries (set slots slot o)) ++ aside)
    ≡ numbered_as k c.args.self.now) (sym c.of.ensures)
    (put-others slots t.taken t.chunks c.put.new.self aside c.self.invariant n p slot c.args.item.now below at free
    c.in_ok-place.ensures.one_more k other
    ∙ ap (λ (items : Items). numbered_as k items) c.self.view_is)
