-- Where a list breaks, and that it is a run where it does not.
use Rattle.std.proofs.Common.{◌≡◌, ℕ, zero, suc, ◌+◌, List, [], ◌∷◌, Some, None, refl, ap, ◌∙◌, arith}
use Rattle.lf_rules.specs.declared.shape.Shape.{Shape}
use Rattle.lf_rules.specs.declared.event.Record.{Record}
use Rattle.lf_rules.specs.declared.rule.Rule.{Rule}
use Rattle.lf_rules.specs.State.{Local}
use Rattle.lf_rules.specs.Table.{Side}
use Rattle.lf_rules.specs.Run.{effect, IsRunOf, fault_here, first_fault_of, BreaksAt}

pub no_fault_in_run : (side : Side) (shape : Shape) (rs : List Record) (now : Local) (place : ℕ) →
    IsRunOf side shape now rs → first_fault_of side shape now place rs ≡ None
no_fault_in_run side shape [] now place run = refl
no_fault_in_run side shape (r ∷ rs) now place run =
    ap (λ o. fault_here place o (first_fault_of side shape (effect side shape now r) (place + 1) rs)) run.0
    ∙ no_fault_in_run side shape rs (effect side shape now r) (place + 1) run.1

pub fault_at : (side : Side) (shape : Shape) (rs : List Record) (now : Local) (place n : ℕ) (rule : Rule) →
    BreaksAt side shape now rs n rule
    → first_fault_of side shape now place rs ≡ Some (place + n, rule)
fault_at side shape [] now place n rule b = absurd b
fault_at side shape (r ∷ rs) now place zero rule b =
    ap (λ o. fault_here place o (first_fault_of side shape (effect side shape now r) (place + 1) rs)) b
    ∙ ap (λ k. Some (k, rule)) (omega arith)
fault_at side shape (r ∷ rs) now place (suc n) rule b =
    ap (λ o. fault_here place o (first_fault_of side shape (effect side shape now r) (place + 1) rs)) b.0
    ∙ fault_at side shape rs (effect side shape now r) (place + 1) n rule b.1 ∙ ap (λ k. Some (k, rule)) (omega arith)
