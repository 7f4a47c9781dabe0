-- What has been read of bytes that begin a trace.
use Rattle.std.proofs.Common.{◌≡◌, ℕ, ◌+◌, ◌*◌, ◌<◌, ◌≤◌, ◌^◌, List, [], ◌∷◌, ◌++◌, length, Some, sym, ap, ◌∙◌, arith}
use Rattle.std.proofs.Common.{subst, append-nil}
use Rattle.std.specs.List.{AllByRecursion}
use Rattle.std.proofs.lemmas.List.{length-append}
use Rattle.std.proofs.lemmas.Nat.{mul-le}
use Rattle.lf_rules.specs.Fits.{Bytes}
use Rattle.lf_rules.specs.declared.event.Record.{Record}
use Rattle.lf_codec.proofs.EachKind.{length-fixed_bytes, data_len_again, fixed_passes}
use Rattle.lf_codec.proofs.Forward.{few_of_trace}
use Rattle.lf_codec.proofs.Judged.{judged_passed}
use Rattle.lf_codec.proofs.Numbers.{length-u32_bytes}
use Rattle.lf_codec.proofs.Soundness.{block_at_most_64, data_limit, most_data-le, fixed_len-le}
use Rattle.lf_codec.specs.Checks.{fixed_checks}
use Rattle.lf_codec.specs.Laws.{AreBytes, WhatIsReadFits}
use Rattle.lf_codec.specs.Layout.{u32_bytes, record_bytes, fixed_bytes, data_of, kind_of}
use Rattle.lf_codec.specs.Lengths.{bytes_len}
use Rattle.lf_codec.specs.Reading.{Reading, reading_of, header_of}
use Rattle.lf_codec.specs.Sound.{IsInRange}
use Rattle.lf_codec.specs.Trace.{FitsHeader, FitsIn, FitsTrace}
use Rattle.lf_codec.specs.declared.header.Header.{Header}
use Rattle.lf_verdict.proofs.Lengths.{first_offset_is}
use Rattle.lf_verdict.specs.Breaking.{first_offset}
use Rattle.explain_why.specs.declared.packing.Packing.{Packing}
use Rattle.explain_why.specs.Packing.{HasMemory, IsPackingSoFar}
use Rattle.explain_why.specs.Taken.{HasTakenAll}

-- ---- what has been read

-- Where the header and the memory are whole, it fits as a trace does.
pub fits_so_far : WhatIsReadFits → (bytes : List ℕ) → AreBytes bytes → (h : Header) → header_of bytes ≡ Some h
    → length (reading_of bytes).memory ≡ h.memory_count
    → FitsTrace h (reading_of bytes).memory (reading_of bytes).records
fits_so_far law bytes are h read whole =
    let fits = law bytes h are read in
    record {
      header = fits.header;
      memory_count = sym whole;
      blocks = fits.blocks;
      each = fits.each;
      logs = fits.logs;
    }

-- ---- how long it is

in_range : (h : Header) → FitsHeader h → IsInRange h
in_range h fits = record {
  some_port = fits.some_port;
  ports = fits.ports;
  some_bank = fits.some_bank;
  banks = fits.banks;
  block_size = fits.block_size;
  factor = fits.factor;
  one_block = fits.one_block;
  version = fits.version;
}

record_len : (h : Header) (r : Record) → FitsHeader h → FitsIn h r → length (record_bytes r) ≤ 300
record_len h r header fits =
    let range = in_range h header in
    let kind = kind_of r.event in
    let le = block_at_most_64 h.block header.block_size in
    let event = fits.fits.event in
    let passed = judged_passed (fixed_checks h r.bank kind (fixed_bytes r.event))
    (fixed_passes h r.bank r.event le event) in
    omega (
      arith,
      length-append (u32_bytes r.number ++ fixed_bytes r.event) (data_of r.event),
      length-append (u32_bytes r.number) (fixed_bytes r.event),
      length-u32_bytes r.number,
      length-fixed_bytes h r.bank r.event event,
      fixed_len-le h kind range,
      data_len_again h r.bank r.event le event,
      data_limit h r.bank kind (fixed_bytes r.event) range passed,
      most_data-le h kind range,
    )

records_len : (h : Header) (rs : List Record) → FitsHeader h → AllByRecursion (FitsIn h) rs →
    bytes_len rs ≤ 300 * length rs
records_len h [] header fit = omega arith
records_len h (r ∷ rs) header fit = omega (arith, record_len h r header fit.0, records_len h rs header fit.1)

-- The records of a trace end below 2^64.
pub ends_below : (h : Header) (memory : List (ℕ × Bytes)) (records : List Record) → FitsTrace h memory records →
    first_offset h memory + bytes_len records < 2 ^ 64
ends_below h memory records fits =
    omega (
      arith,
      few_of_trace h memory records fits,
      records_len h records fits.header fits.each,
      first_offset_is h memory fits.blocks,
      mul-le (length memory) (4 + h.block) 0x1_0000_0000 68
          (omega (arith, fits.memory_count, fits.header.memory_count))
          (omega (arith, block_at_most_64 h.block fits.header.block_size)),
    )

-- ---- what was packed

-- What a reader gave is what has been read, where nothing is left.
pub packed : WhatIsReadFits → (bytes : List ℕ) → HasMemory bytes → (h : Header) → header_of bytes ≡ Some h
    → (r : Reading) (memory : List (ℕ × Bytes)) (records : List Record) → HasTakenAll r bytes memory records
    → (packing : Packing) → packing.memory.items ≡ memory → packing.records.records ≡ records
    → (FitsTrace h memory records → packing.start ≡ first_offset h memory) → IsPackingSoFar bytes packing
packed law bytes has h there r memory records all packing memory_is records_is starts =
    let blocks : (reading_of bytes).memory ≡ memory = ap (λ (q : Reading). q.memory) all.read.same
    ∙ ap (λ (m : List (ℕ × Bytes)). memory ++ m) all.no_memory ∙ append-nil memory in
    let events : (reading_of bytes).records ≡ records = ap (λ (q : Reading). q.records) all.read.same
    ∙ ap (λ (rs : List Record). records ++ rs) all.no_records ∙ append-nil records in
    let both : Some has.header ≡ Some h = sym has.read ∙ there in
    let header_is : has.header ≡ h = cc in
    let so_far = fits_so_far law bytes all.read.are_bytes h there
    (has.whole ∙ ap (λ (k : Header). k.memory_count) header_is) in
    let fits : FitsTrace h memory records =
    subst (λ (rs : List Record). FitsTrace h memory rs) events
    (subst (λ (m : List (ℕ × Bytes)). FitsTrace h m (reading_of bytes).records) blocks so_far) in
    record {
      header = h;
      read = there;
      memory_is = memory_is ∙ sym blocks;
      records_are = records_is ∙ sym events;
      fits = subst (λ (rs : List Record). FitsTrace h packing.memory.items rs) (sym records_is)
          (subst (λ (m : List (ℕ × Bytes)). FitsTrace h m records) (sym memory_is) fits);
      first = starts fits ∙ ap (first_offset h) (sym memory_is);
      ends = omega (arith, starts fits, ends_below h memory records fits, ap bytes_len records_is);
    }
