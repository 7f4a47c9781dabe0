-- What a table of requests says.
use Rattle.std.specs.Prelude.{◌≡◌, ℕ, ◌+◌, ◌*◌, ◌<◌, List, Option, Some, None, length, slice_index_or}
use Rattle.lf_rules.specs.declared.event.Record.{Record}
use Rattle.lf_rules.specs.declared.shape.Shape.{Shape}
use Rattle.explain_history.specs.declared.requests.Named.{Named}
use Rattle.explain_history.specs.declared.requests.Named.TheVariants.{Nothing, Second, Request}
use Rattle.explain_history.specs.declared.requests.Requests.{Requests}
use Rattle.explain_history.specs.Touching.{asked}

-- It has what the latest request of each port and tag asks for, among these records, which stand latest first.
pub record IsLatest (shape : Shape) (before : List Record) (requests : Requests) : Type 0 where
  pub len : length requests.seconds.items ≡ 65536
  pub latest : (port tag : ℕ) → port < 256 → tag < 256 → slice_index_or requests.seconds.items (port * 256 + tag) None
      ≡ asked shape before port tag

-- the second-level block that is named, by itself or by a request, after these records, which stand latest first
abbrev pub block_named : Shape → List Record → Named → Option ℕ
block_named shape before Nothing = None
block_named shape before (Second second) = Some second
block_named shape before (Request port tag) = asked shape before port tag
