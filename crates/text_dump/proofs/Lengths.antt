-- How many bytes the parts of a text have, and that lines join.
use Rattle.std.proofs.Common.{◌≡◌, ℕ, ◌+◌, ◌≤◌, List, [], ◌∷◌, ◌++◌, length, map, take, Option, Some, None, refl, sym}
use Rattle.std.proofs.Common.{ap, subst, ◌∙◌, append_assoc, arith, inl, inr, ◌⊎◌}
use Rattle.std.specs.List.{flat_map}
use Rattle.std.proofs.Math.Nat.{le_trans}
use Rattle.std.proofs.lemmas.List.{length-append, length-take}
use Rattle.std.proofs.lemmas.List.Sums.{sum_by-append, sum_by-cons}
use Rattle.std.proofs.lemmas.List.Concat.{flat_map-cons}
use Rattle.lf_rules.specs.Fits.{Bytes}
use Rattle.lf_rules.specs.declared.event.Record.{Record}
use Rattle.lf_codec.specs.declared.header.Header.{Header}
use Rattle.lf_codec.specs.Layout.{header_bytes, memory_bytes, record_bytes, end_bytes}
use Rattle.lf_codec.specs.Laws.{AreBytes, beginning, IsSpelledBefore}
use Rattle.lf_codec.specs.Reading.{reading_of, header_of, trace_fault}
use Rattle.lf_codec.specs.Trace.{IsTrace}
use Rattle.lf_codec.proofs.Backward.{fault_cases}
use Rattle.lf_codec.proofs.Spelled.{what_stands_before_is_spelled}
use Rattle.lf_codec.proofs.TraceLaws.{read_is_trace}
use Rattle.text_dump.specs.Lines.{Part, placed_line, lines_from, len_of, header_part, memory_part, record_part}
use Rattle.text_dump.specs.Lines.{header_parts, parts_in, parts_of}
use Rattle.text_dump.proofs.Order.{orderly}

-- ---- lines

pub lines_from-append : (xs ys : List Part) (offset : ℕ) → lines_from offset (xs ++ ys) ≡ lines_from offset xs
    ++ lines_from (offset + len_of xs) ys
lines_from-append [] ys offset = let same : offset ≡ offset + len_of [] = omega arith in
    ap (λ (n : ℕ). lines_from n ys) same
lines_from-append (x ∷ xs) ys offset =
    let n = length x.bytes in
    let there : offset + n + len_of xs ≡ offset + len_of (x ∷ xs) =
    omega (arith, sum_by-cons (λ (p : Part). length p.bytes) x xs) in
    ap (λ (l : List ℕ). placed_line x.text offset ++ l) (lines_from-append xs ys (offset + n)
    ∙ ap (λ (k : ℕ). lines_from (offset + n) xs ++ lines_from k ys) there)
    ∙ sym (append_assoc (placed_line x.text offset) (lines_from (offset + n) xs)
    (lines_from (offset + len_of (x ∷ xs)) ys))

-- ---- bytes

pub len_of-append : (xs ys : List Part) → len_of (xs ++ ys) ≡ len_of xs + len_of ys
len_of-append xs ys = sum_by-append (λ (p : Part). length p.bytes) xs ys

memory_len : (memory : List (ℕ × Bytes)) → len_of (map memory_part memory) ≡ length (flat_map memory_bytes memory)
memory_len [] = refl
memory_len (m ∷ memory) = omega (
  arith,
  memory_len memory,
  ap length (flat_map-cons memory_bytes m memory),
  length-append (memory_bytes m) (flat_map memory_bytes memory),
  sum_by-cons (λ (p : Part). length p.bytes)
      (memory_part m) (map memory_part memory),
)

records_len : (records : List Record) → len_of (map record_part records) ≡ length (flat_map record_bytes records)
records_len [] = refl
records_len (r ∷ records) = omega (
  arith,
  records_len records,
  ap length (flat_map-cons record_bytes r records),
  length-append (record_bytes r) (flat_map record_bytes records),
  sum_by-cons (λ (p : Part). length p.bytes)
      (record_part r) (map record_part records),
)

-- a record has a byte at least
pub few_records : (records : List Record) → length records ≤ len_of (map record_part records)
few_records [] = omega arith
few_records (r ∷ records) = omega (
  arith,
  few_records records,
  sum_by-cons (λ (p : Part). length p.bytes)
      (record_part r) (map record_part records),
)

parts_len : (h : Header) (memory : List (ℕ × Bytes)) (records : List Record) →
    len_of (parts_in (Some h) memory records) ≡ length (beginning h memory records)
parts_len h memory records =
    let rest : len_of (map memory_part memory ++ map record_part records)
    ≡ length (flat_map memory_bytes memory ++ flat_map record_bytes records) =
    len_of-append (map memory_part memory) (map record_part records) ∙ rw (memory_len memory, records_len records) refl
    ∙ sym (length-append (flat_map memory_bytes memory) (flat_map record_bytes records)) in
    sum_by-cons (λ (p : Part). length p.bytes) (header_part h) (map memory_part memory ++ map record_part records)
    ∙ ap (λ (n : ℕ). length (header_bytes h) + n) rest
    ∙ sym (length-append (header_bytes h) (flat_map memory_bytes memory ++ flat_map record_bytes records))
    ∙ sym (ap length (append_assoc (header_bytes h) (flat_map memory_bytes memory) (flat_map record_bytes records)))

longer : (a b : List ℕ) → length a ≤ length (a ++ b)
longer a b = omega (arith, length-append a b)

rest_within : (hs ms rs : List Part) → len_of rs ≤ len_of (hs ++ (ms ++ rs))
rest_within hs ms rs = omega (arith, len_of-append hs (ms ++ rs), len_of-append ms rs)

within_trace : (before : List ℕ) (h : Header) (memory : List (ℕ × Bytes)) (records : List Record) →
    IsTrace before h memory records → len_of (parts_in (Some h) memory records) ≤ length before
within_trace before h memory records trace =
    rw (parts_len h memory records, trace.spelled) (longer (beginning h memory records) (end_bytes (length records)))

within_before : (before : List ℕ) (h : Header) (memory : List (ℕ × Bytes)) (records : List Record) →
    IsSpelledBefore (Some h) memory records before → len_of (parts_in (Some h) memory records) ≤ length before
within_before before h memory records (inl spelled) = rw (parts_len h memory records, spelled) (omega arith)
within_before before h memory records (inr trace) = within_trace before h memory records trace

pub header_cases : (h : Option Header) → (h ≡ None) ⊎ ((now : Header) × (h ≡ Some now))
header_cases None = inl refl
header_cases (Some now) = inr (now, refl)

-- before the header there are no parts
pub no_parts : (bytes : List ℕ) → header_of bytes ≡ None → parts_of bytes ≡ []
no_parts bytes none =
    let o = (orderly bytes).unread none in
    rw (none, o.0, o.1) refl

-- the parts stand in the bytes
pub parts_within : (bytes : List ℕ) → AreBytes bytes → len_of (parts_of bytes) ≤ length bytes
parts_within bytes fits =
    let m = (reading_of bytes).memory in
    let r = (reading_of bytes).records in
    elim (header_cases (header_of bytes)) [
      | inl none ↦ let empty = ap len_of (no_parts bytes none) in omega (arith, empty)
      | inr there ↦
          let same : parts_of bytes ≡ parts_in (Some there.0) m r =
          ap (λ (h : Option Header). parts_in h m r) there.1 in
          elim (fault_cases (trace_fault bytes)) [
            | inl fine ↦
                let trace = read_is_trace bytes there.0 m r fits (fine, there.1, refl, refl) in
                omega (arith, ap len_of same, within_trace bytes there.0 m r trace)
            | inr bad ↦
                let before : IsSpelledBefore (header_of bytes) m r (take bad.0.offset bytes) =
                what_stands_before_is_spelled bytes bad.0 fits bad.1 in
                let spelled : IsSpelledBefore (Some there.0) m r (take bad.0.offset bytes) =
                subst (λ (h : Option Header). IsSpelledBefore h m r (take bad.0.offset bytes)) there.1 before in
                omega (
                  arith,
                  ap len_of same,
                  within_before (take bad.0.offset bytes) there.0 m r spelled,
                  length-take
                      bad.0.offset bytes,
                )
          ]
    ]

-- and so there are no more records than bytes
pub count_within : (bytes : List ℕ) → AreBytes bytes → length (reading_of bytes).records ≤ length bytes
count_within bytes fits =
    le_trans (few_records (reading_of bytes).records)
    (le_trans (rest_within (header_parts (header_of bytes)) (map memory_part (reading_of bytes).memory)
    (map record_part (reading_of bytes).records))
    (parts_within bytes fits))
