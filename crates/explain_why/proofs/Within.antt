-- The memory and the records of a trace, and where they stand in its bytes.
use Rattle.std.proofs.Common.{◌≡◌, ◌≢◌, ℕ, ◌+◌, ◌≤◌, List, [], ◌∷◌, ◌++◌, length, Option, Some, refl, ap, ◌∙◌}
use Rattle.std.proofs.Common.{inl, inr, arith}
use Rattle.std.specs.List.{flat_map}
use Rattle.std.proofs.lemmas.List.{length-append}
use Rattle.lf_rules.specs.declared.event.Record.{Record}
use Rattle.lf_rules.specs.Fits.{Bytes}
use Rattle.lf_codec.specs.declared.fault.CodecCause.{CodecCause}
use Rattle.lf_codec.specs.declared.fault.CodecCause.TheVariants.{NoMemory}
use Rattle.lf_codec.specs.declared.header.Header.{Header}
use Rattle.lf_codec.specs.Layout.{header_bytes, memory_bytes, record_bytes, end_bytes}
use Rattle.lf_codec.specs.Reader.{HasRead, UnlessWant, with_records}
use Rattle.lf_codec.specs.Reading.{Reading}
use Rattle.lf_codec.specs.Trace.{IsTrace}
use Rattle.lf_codec.specs.Lengths.{bytes_len}
use Rattle.lf_verdict.specs.Breaking.{first_offset}
use Rattle.explain_why.specs.declared.packing.Packing.{Packing}
use Rattle.explain_why.specs.Packing.{IsPacking}

-- ---- what a reader gives

-- The caller of a reader has these records, which is the same as if they had been taken.
pub as_taken : (r : Reading) (fed : List ℕ) (memory : List (ℕ × Bytes)) (records : List Record)
    → HasRead (with_records records r) fed memory [] → HasRead r fed memory records
as_taken r fed memory records read = record { are_bytes = read.are_bytes; same = read.same }

-- Where memory did not run out, it holds.
pub unless_wanted : (P : Type 0) (cause : Option CodecCause) → cause ≢ Some NoMemory → UnlessWant cause P → P
unless_wanted P cause other (inl want) = absurd (other want)
unless_wanted P cause other (inr holds) = holds

-- ---- the bytes of a trace

records_len : (rs : List Record) → length (flat_map record_bytes rs) ≡ bytes_len rs
records_len [] = refl
records_len (r ∷ rs) = length-append (record_bytes r) (flat_map record_bytes rs)
    ∙ ap (λ n. length (record_bytes r) + n) (records_len rs)

four_len : (a b c d : List ℕ) → length (a ++ b) + length c ≤ length (a ++ b ++ c ++ d)
four_len a b c d = omega (arith, length-append (a ++ b ++ c) d, length-append (a ++ b) c)

-- The records end within the bytes.
records_within : (bytes : List ℕ) (h : Header) (memory : List (ℕ × Bytes)) (records : List Record)
    → IsTrace bytes h memory records → first_offset h memory + bytes_len records ≤ length bytes
records_within bytes h memory records trace =
    omega (
      arith,
      ap length trace.spelled,
      four_len (header_bytes h) (flat_map memory_bytes memory) (flat_map record_bytes records)
          (end_bytes (length records)),
      records_len records,
    )

pub is_packing : (bytes : List ℕ) (h : Header) (packing : Packing)
    → IsTrace bytes h packing.memory.items packing.records.records
    → packing.start ≡ first_offset h packing.memory.items → IsPacking bytes packing
is_packing bytes h packing trace first = record {
  header = h;
  trace = trace;
  first = first;
  ends = omega (arith, first, records_within bytes h packing.memory.items packing.records.records trace);
}
