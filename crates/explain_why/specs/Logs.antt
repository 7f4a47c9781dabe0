-- The logs of a trace.
use Rattle.std.specs.Prelude.{◌≡◌, ℕ, ◌+◌, ◌<◌, ◌≤◌, ◌^◌, List, length}
use Rattle.std.specs.List.{All}
use Rattle.lf_rules.specs.declared.shape.Shape.{Shape}
use Rattle.lf_rules.specs.declared.event.Record.{Record}
use Rattle.lf_rules.specs.Fits.{Bytes}
use Rattle.lf_rules.specs.Numbers.{bank_numbers, IsWhole}
use Rattle.lf_verdict.specs.Legal.{IsTraceFor}

-- The bytes are a trace for the shape, whose banks' numbers are whole.
pub record IsCountable (shape : Shape) (bytes : List ℕ) : Type 0 where
  pub memory : List (ℕ × Bytes)
  pub logs : List (List Record)
  pub trace : IsTraceFor shape bytes memory logs
  pub whole : (bank : ℕ) → bank < shape.banks → IsWhole (bank_numbers logs bank)

-- These are the logs of the trace in the bytes: one for each port and each bank, with at most 2^24 records each, and
-- whole numbers of each bank.
pub record AreListsIn (shape : Shape) (bytes : List ℕ) (lists : List (List Record)) : Type 0 where
  pub memory : List (ℕ × Bytes)
  pub trace : IsTraceFor shape bytes memory lists
  pub count : length lists ≡ shape.ports + shape.banks
  pub short : All (λ log. length log ≤ 2 ^ 24) lists
  pub whole : (bank : ℕ) → bank < shape.banks → IsWhole (bank_numbers lists bank)
