-- What the plain machine answers to the order of a yes.
use Rattle.std.specs.Prelude.{◌≡◌, ◌↔◌, ℕ, List}
use Rattle.lf_rules.specs.declared.shape.Shape.{Shape}
use Rattle.lf_rules.specs.declared.event.Record.{Record}
use Rattle.lf_model.specs.declared.outcome.Recheck.{Recheck}
use Rattle.lf_model.specs.declared.outcome.Recheck.TheVariants.{Accepted}
use Rattle.lf_rules.specs.Address.{flat_memory}
use Rattle.lf_rules.specs.Fits.{Bytes}
use Rattle.lf_model.specs.Recheck.{IsRecheck}
use Rattle.lf_verdict.specs.Legal.{IsTraceFor}
use Rattle.lf_verdict.specs.Verdict.{IsLeastYes}

-- The order of a yes is accepted, of the memory and the logs of the trace, and `recheck` answers nothing else to it.
abbrev pub YesIsRechecked : Type 0
YesIsRechecked = (shape : Shape) (bytes : List ℕ) (events : ℕ) (order : List ℕ) → IsLeastYes shape bytes events order
    → (memory : List (ℕ × Bytes)) (logs : List (List Record)) → IsTraceFor shape bytes memory logs
    → (answer : Recheck) → IsRecheck shape (flat_memory memory) logs order answer ↔ (answer ≡ Accepted)
