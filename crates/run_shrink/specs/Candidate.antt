-- What is known of the traces that a search keeps.
use Rattle.std.specs.Prelude.{◌≡◌, ◌⊎◌, ◌≤◌, ◌<◌, length}
use Rattle.lf_rules.specs.declared.shape.Shape.{Shape}
use Rattle.lf_codec.specs.declared.header.Header.{Header}
use Rattle.lf_codec.specs.Trace.{IsTrace}
use Rattle.run_shrink.specs.declared.wanted.Wanted.{Wanted}
use Rattle.run_shrink.specs.declared.candidate.Kept.{Kept}
use Rattle.run_shrink.specs.Broken.{HasFault}
use Rattle.run_shrink.specs.Wanted.{IsWanted}

-- The bytes are the trace of the memory and the records, and have the fault, which is the one that is wanted.
pub record IsKept (shape : Shape) (wanted : Wanted) (kept : Kept) : Type 0 where
  pub header : Header
  pub trace : IsTrace kept.bytes.items header kept.memory.items kept.records.items
  pub has : HasFault wanted.sought.first shape kept.bytes.items kept.fault
  pub is_wanted : IsWanted shape kept.memory.items kept.records.items kept.fault wanted

-- It has fewer bytes than another, and no more records.
pub record IsSmallerThan (other kept : Kept) : Type 0 where
  pub records : length kept.records.items ≤ length other.records.items
  pub bytes : length kept.bytes.items < length other.bytes.items

-- It has the bytes of another, or is smaller.
pub record IsNoLargerThan (other kept : Kept) : Type 0 where
  pub records : length kept.records.items ≤ length other.records.items
  pub bytes : (kept.bytes.items ≡ other.bytes.items) ⊎ (length kept.bytes.items < length other.bytes.items)
