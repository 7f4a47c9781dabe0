-- The queues of a bank's ports.
use Rattle.std.specs.Prelude.{ℕ, List, [], slice_index_or}
use Rattle.lf_rules.specs.State.{Request}

-- the queue of a port, and none for a port that is not there
abbrev pub queue_at : List (List Request) → ℕ → List Request
queue_at queues port = slice_index_or queues port []
