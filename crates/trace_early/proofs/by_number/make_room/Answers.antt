use Rattle.std.proofs.Common.{◌≡◌, ℕ, List, length, Option, None, replicate}
use Rattle.std.proofs.Common.{sym, ap, ◌∙◌, subst, rules}
use Rattle.std.specs.List.Sorted.{IsPermutation}
use Rattle.std.proofs.lemmas.Bool.{eqb-true}
use Rattle.std.proofs.lemmas.List.{nil_from_length}
use Rattle.std.proofs.lemmas.List.Sorted.{IsPermutation-refl}
use Rattle.trace_early.specs.Table.{AreOwn, entries}
use Rattle.trace_early.proofs.Slots.{Slots}
use Rattle.trace_early.proofs.Widening.{no_entries, AreOwn-none}
use Rattle.trace_early.proofs.by_number.make_room.Goals as goal

no_slots : (slots : Slots) (n : ℕ) → length slots ≡ 0 → (more : Slots) → more ≡ replicate n None
    → IsPermutation (entries slots) (entries more)
no_slots slots n none more all = subst (λ (es : List (ℕ × ℕ)). IsPermutation (entries slots) es)
    (ap entries (nil_from_length slots none) ∙ sym (ap entries all ∙ no_entries n)) (IsPermutation-refl (entries slots))

pub returns-in_ok-slots-clause-sized : goal.returns-in_ok-slots-clause-sized
returns-in_ok-slots-clause-sized c some =
    (6, sym c.in_ok-slots.field-0.ok.0 ∙ c.in_ok-slots.ensures.len)

pub returns-in_ok-slots-clause-own : goal.returns-in_ok-slots-clause-own
returns-in_ok-slots-clause-own c =
    let all : c.in_ok-slots.field-0.items ≡ replicate {A = Option (ℕ × ℕ)} 64 None =
    c.in_ok-slots.ensures.items_if_clones_equal (λ y h. search rules) ∙ ap (replicate 64) c.empty.ensures in
    subst AreOwn (sym all) (AreOwn-none 64)

pub returns-in_ok-slots-clause-same : goal.returns-in_ok-slots-clause-same
returns-in_ok-slots-clause-same c =
    let all : c.in_ok-slots.field-0.items ≡ replicate {A = Option (ℕ × ℕ)} 64 None =
    c.in_ok-slots.ensures.items_if_clones_equal (λ y h. search rules) ∙ ap (replicate 64) c.empty.ensures in
    let none : length c.args.slots.now.items ≡ 0 = sym c.args.slots.now.ok.0
    ∙ eqb-true c.args.slots.now.len 0 (sym c.is_empty.ensures ∙ c.if-is_empty.true) in
    no_slots c.args.slots.now.items 64 none c.in_ok-slots.field-0.items all
