-- What is kept of a bank's records.
use Rattle.std.specs.Prelude.{◌≡◌, ℕ, ◌+◌, ◌*◌, ◌<◌, Bool, ◌==◌, length, Option, None, slice_index_or}
use Rattle.std.specs.HashSet.{HashSet, contains}
use Rattle.count_coverage.specs.declared.request.Request.{Request}
use Rattle.count_coverage.specs.declared.request.Requests.{Requests}
use Rattle.count_coverage.specs.declared.standing.Kept.{Kept}
use Rattle.count_coverage.specs.Standing.{Standing}

-- the latest request of the port with the tag
abbrev pub latest_in : Requests → ℕ → ℕ → Option Request
latest_in requests port tag = slice_index_or requests.0.items (port * 256 + tag) None

-- is the block one of these?
abbrev pub is_in : {S : Type 0} → HashSet ℕ S → ℕ → Bool
is_in blocks block = contains ◌==◌ blocks block

-- what is kept tells of where a bank stands
pub record IsKept (kept : Kept) (s : Standing) : Type 0 where
  pub len : length kept.requests.0.items ≡ 65536
  pub latest : (port tag : ℕ) → port < 256 → tag < 256 → latest_in kept.requests port tag ≡ s.latest port tag
  pub waiting : kept.waiting.items ≡ s.waiting
  pub written : (block : ℕ) → is_in kept.written block ≡ s.written block
  pub waiting2 : kept.waiting2.items ≡ s.waiting2
  pub written2 : (second : ℕ) → is_in kept.written2 second ≡ s.written2 second
  pub lines2 : (second : ℕ) → is_in kept.lines2 second ≡ s.lines2 second
  pub supplied : kept.supplied.items ≡ s.supplied
