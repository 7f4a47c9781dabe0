use Rattle.std.proofs.Common.{◌≡◌, ◌++◌, ◌∷◌, [], List, Bool, true, false, None, length, refl, sym, subst}
use Rattle.std.specs.Bool.{IsTrue}
use Rattle.lf_rules.specs.declared.event.Record.{Record}
use Rattle.lf_logs.specs.Reordering.{Reordering, HasOrdered, first_with}
use Rattle.log_tests.specs.Ordered.{IsInOrder}
use Rattle.log_tests.proofs.reordering.passes.Goals as goal

-- A record that passes, or does not, leaves the others in their order.
pub in_order : (passed : Bool) (old new : Reordering) (item : Record) → IsInOrder old
    → ((put gave : List Record) → HasOrdered old put gave → first_with (length gave) put ≡ None)
    → (IsTrue passed → (put gave : List Record) → HasOrdered old put gave → first_with (length gave) put ≡ None
    → (item.number ≡ length gave) × HasOrdered new (put ++ item ∷ []) (gave ++ item ∷ []))
    → (¬ IsTrue passed → new ≡ old) → IsInOrder new
in_order true old new item some none goes stays =
    let put = some.0 in
    let gave = some.1 in
    let ordered = some.2 in
    (put ++ item ∷ [], gave ++ item ∷ [], (goes refl put gave ordered (none put gave ordered)).1)
in_order false old new item some none goes stays = subst IsInOrder (sym (stays (λ e. cc))) some

pub returns-then-is_empty-clause-order : goal.returns-then-is_empty-clause-order
returns-then-is_empty-clause-order c =
    in_order c.pass.result c.args.order.now c.pass.new.self c.of.result c.requires
    (c.is_empty.ensures.none c.if-is_empty.true) c.pass.ensures.passed c.pass.ensures.unchanged
