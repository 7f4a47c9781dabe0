use Rattle.std.proofs.Common.{◌≡◌, ◌+◌, ◌*◌, ◌%◌, ℕ, length, get_or, set, Option, None, replicate}
use Rattle.std.proofs.Common.{sym, ap, ◌∙◌, subst, rules, arith}
use Rattle.std.proofs.lemmas.List.{get_or_default}
use Rattle.trace_early.proofs.Widening.{IsWidened, IsWidened-none, IsWidened-skip, IsWidened-more}
use Rattle.trace_early.proofs.Widening.{IsWidened-sized}
use Rattle.trace_early.proofs.by_number.widened.Goals as goal
use Rattle.trace_early.proofs.by_number.widened.Goals.{in-Some, in_default}

pub loop-slot-init : goal.loop-slot-init
loop-slot-init c =
    let all : c.in_ok-wider.wider.items ≡ replicate {A = Option (ℕ × ℕ)} (2 * length c.args.slots.now) None =
    c.in_ok-wider.ensures.items_if_clones_equal (λ y h. search rules)
    ∙ ap (replicate (2 * length c.args.slots.now)) c.empty.ensures in
    IsWidened-none c.args.slots.now c.in_ok-wider.wider.items all
    (omega (arith, c.in_ok-wider.wider.ok.0, c.in_ok-wider.ensures.len))

pub slot_of-to-requires : goal.slot_of-to-requires
slot_of-to-requires c =
    let sized = IsWidened-sized c.args.slots.now c.loop-slot.wider.items c.requires.some c.requires.sized
    c.loop-slot.invariant.len in
    (sized.0, c.len.ensures ∙ c.loop-slot.wider.ok.0 ∙ sized.1)

pub loop-slot-preserved : goal.loop-slot-preserved
loop-slot-preserved c =
    let slots = c.args.slots.now in
    let at = c.loop-slot.slot-index in
    let is : get_or slots at None ≡ c.entry.result =
    sym (c.slot-item.is ∙ get_or_default slots at c.slot-item.result None c.loop-slot-test.true)
    ∙ sym c.entry.ensures in
    elim c.match-entry.branch [
      | in-Some w ↦
          let n = w.in-Some.number in
          let p = w.in-Some.field-0-1 in
          let to = w.slot_of-to.result in
          let len : w.len.result ≡ length c.loop-slot.wider.items = w.len.ensures ∙ c.loop-slot.wider.ok.0 in
          rw w.wider-is
          (subst
          (λ (e : Option (ℕ × ℕ)). IsWidened slots (set c.loop-slot.wider.items to e) (at + 1))
          (sym (sym c.entry.ensures ∙ w.in-Some.is))
          (IsWidened-more slots c.loop-slot.wider.items at n p to c.requires.own c.loop-slot-test.true
          (is ∙ w.in-Some.is) c.loop-slot.invariant
          (sym (w.slot_of-to.ensures ∙ ap (λ k. n % k) len))))
      | in_default w ↦ rw w.wider-is
          (IsWidened-skip slots c.loop-slot.wider.items at c.loop-slot-test.true (is ∙ w.in_default.is)
          c.loop-slot.invariant)
    ]

pub returns-clause-sized : goal.returns-clause-sized
returns-clause-sized c some = IsWidened-sized c.args.slots.now c.loop-slot.wider.items c.requires.some c.requires.sized
    c.loop-slot.invariant.len
