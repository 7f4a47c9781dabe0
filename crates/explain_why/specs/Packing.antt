-- The memory and the records of a trace.
use Rattle.std.specs.Prelude.{◌≡◌, ℕ, ◌+◌, ◌<◌, ◌≤◌, ◌^◌, List, length, Some}
use Rattle.lf_codec.specs.Lengths.{bytes_len}
use Rattle.lf_codec.specs.declared.header.Header.{Header}
use Rattle.lf_codec.specs.Reading.{header_of, reading_of}
use Rattle.lf_codec.specs.Trace.{FitsTrace, IsTrace}
use Rattle.lf_verdict.specs.Breaking.{first_offset}
use Rattle.explain_why.specs.declared.packing.Packing.{Packing}

-- The bytes are the trace of this memory and these records. Its first record begins at `start`, and its last one ends
-- within the bytes.
pub record IsPacking (bytes : List ℕ) (packing : Packing) : Type 0 where
  pub header : Header
  pub trace : IsTrace bytes header packing.memory.items packing.records.records
  pub first : packing.start ≡ first_offset header packing.memory.items
  pub ends : packing.start + bytes_len packing.records.records ≤ length bytes

-- The header and the memory of a trace are whole in the bytes.
pub record HasMemory (bytes : List ℕ) : Type 0 where
  pub header : Header
  pub read : header_of bytes ≡ Some header
  pub whole : length (reading_of bytes).memory ≡ header.memory_count

-- The bytes begin a trace whose header and memory are whole, and this memory and these records stand in them. The first
-- record begins at `start`.
pub record IsPackingSoFar (bytes : List ℕ) (packing : Packing) : Type 0 where
  pub header : Header
  pub read : header_of bytes ≡ Some header
  pub memory_is : packing.memory.items ≡ (reading_of bytes).memory
  pub records_are : packing.records.records ≡ (reading_of bytes).records
  pub fits : FitsTrace header packing.memory.items packing.records.records
  pub first : packing.start ≡ first_offset header packing.memory.items
  pub ends : packing.start + bytes_len packing.records.records < 2 ^ 64
