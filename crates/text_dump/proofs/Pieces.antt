-- What one more piece adds to the parts.
use Rattle.std.proofs.Common.{◌≡◌, ℕ, zero, suc, ◌+◌, ◌<◌, List, [], ◌∷◌, ◌++◌, length, map, Option, Some, None, refl}
use Rattle.std.proofs.Common.{sym, ap, subst, ◌∙◌, append_assoc, append-nil, arith, inl, inr, ◌⊎◌, ◌≤◌, string_bytes}
use Rattle.std.proofs.lemmas.List.{length-append, map-append, nil_from_length}
use Rattle.std.proofs.lemmas.List.Sums.{sum_by-cons}
use Rattle.lf_rules.specs.Fits.{Bytes}
use Rattle.lf_rules.specs.declared.event.Record.{Record}
use Rattle.lf_codec.specs.declared.header.Header.{Header}
use Rattle.lf_codec.specs.Reader.{HasRead}
use Rattle.lf_codec.specs.Reading.{Reading, reading_of, nothing_read, header_of, header_now}
use Rattle.lf_codec.proofs.Bytes.{read_on-append}
use Rattle.text_dump.specs.Lines.{Part, lines_from, len_of, header_part, memory_part, record_part, parts_in, parts_of}
use Rattle.text_dump.specs.Lines.{lines_of}
use Rattle.text_dump.specs.declared.printer.Printer.{Printer}
use Rattle.text_dump.specs.Printing.{header_due, parts_due, PrintsAll}
use Rattle.text_dump.specs.Dump.{IsShown}
use Rattle.text_dump.proofs.Order.{Follows, follows, orderly, no_more_memory}
use Rattle.text_dump.proofs.Lengths.{header_cases, no_parts, lines_from-append, len_of-append, parts_within}
use Rattle.text_dump.proofs.Lengths.{count_within}

joined : (a a' b b' : List Part) → (b ≡ []) ⊎ (a' ≡ []) → (a ++ a') ++ (b ++ b') ≡ (a ++ b) ++ (a' ++ b')
joined a a' b b' (inl none) = rw (none, append-nil a) (append_assoc a a' b')
joined a a' b b' (inr none) = rw (none, append-nil a) (sym (append_assoc a b b'))

pub due_none : (n : ℕ) (h : Option Header) → 0 < n → header_due n h ≡ []
due_none zero h some = absurd (omega (arith, some))
due_none (suc n) h some = refl

no_more : {A : Type 0} (xs ys : List A) → xs ++ ys ≡ xs → ys ≡ []
no_more xs ys e = nil_from_length ys (omega (arith, ap length e, length-append xs ys))

abbrev pub due : ℕ → Option Header → List (ℕ × Bytes) → List Record → List Part
due offset h memory records = header_due offset h ++ (map memory_part memory ++ map record_part records)

module _ (bytes piece : List ℕ) (memory : List (ℕ × Bytes)) (records : List Record)
    (more_memory : (reading_of (bytes ++ piece)).memory ≡ (reading_of bytes).memory ++ memory)
    (more_records : (reading_of (bytes ++ piece)).records ≡ (reading_of bytes).records ++ records) where
  pub later : Follows (reading_of bytes) (reading_of (bytes ++ piece))
  later = subst (λ (q : Reading). Follows (reading_of bytes) q) (sym (read_on-append bytes piece nothing_read))
      (follows piece (reading_of bytes))

  pub only_some : ((reading_of bytes).records ≡ []) ⊎ (memory ≡ [])
  only_some =
      elim (no_more_memory (reading_of bytes) (reading_of (bytes ++ piece)) (orderly bytes) later) [
        | inl none ↦ inl none
        | inr same ↦ inr (no_more (reading_of bytes).memory memory (sym more_memory ∙ same))
      ]

  only_one : (map record_part (reading_of bytes).records ≡ []) ⊎ (map memory_part memory ≡ [])
  only_one =
      elim only_some [
        | inl none ↦ inl (ap (λ (rs : List Record). map record_part rs) none)
        | inr none ↦ inr (ap (λ (ms : List (ℕ × Bytes)). map memory_part ms) none)
      ]

  all_parts : (h : Option Header) → parts_in h (reading_of (bytes ++ piece)).memory
      (reading_of (bytes ++ piece)).records
      ≡ parts_in h ((reading_of bytes).memory ++ memory) ((reading_of bytes).records ++ records)
  all_parts h = rw (more_memory, more_records) refl

  behind_header : (h : Header) → header_of bytes ≡ Some h → header_of (bytes ++ piece) ≡ Some h
      → parts_of (bytes ++ piece) ≡ parts_of bytes ++ due (len_of (parts_of bytes)) (header_of (bytes ++ piece))
      memory records
  behind_header h old new =
      let m = (reading_of bytes).memory in
      let r = (reading_of bytes).records in
      let first : parts_of bytes ≡ parts_in (Some h) m r = ap (λ (x : Option Header). parts_in x m r) old in
      let some : 0 < len_of (parts_of bytes) = omega (
        arith,
        ap len_of first,
        sum_by-cons
            (λ (p : Part). length p.bytes) (header_part h) (map memory_part m ++ map record_part r),
      ) in
      let rest = joined (map memory_part m) (map memory_part memory) (map record_part r) (map record_part records)
      only_one in
      let whole : parts_in (Some h) (m ++ memory) (r ++ records) ≡ parts_in (Some h) m r
      ++ (map memory_part memory ++ map record_part records) =
      ap (λ (ps : List Part). header_part h ∷ ps) (rw (
        map-append memory_part m memory,
        map-append record_part r
            records,
      ) rest) in
      all_parts (header_of (bytes ++ piece)) ∙ ap (λ (x : Option Header). parts_in x (m ++ memory) (r ++ records)) new
      ∙ whole
      ∙ ap (λ (ps : List Part). ps ++ (map memory_part memory ++ map record_part records)) (sym first)
      ∙ ap (λ (ps : List Part). parts_of bytes ++ (ps ++ (map memory_part memory ++ map record_part records)))
      (sym (due_none (len_of (parts_of bytes)) (header_of (bytes ++ piece)) some))

  from_header : header_of bytes ≡ None → parts_of (bytes ++ piece) ≡ parts_of bytes
      ++ due (len_of (parts_of bytes)) (header_of (bytes ++ piece)) memory records
  from_header none =
      let o = (orderly bytes).unread none in
      let empty = no_parts bytes none in
      let new_memory : (reading_of (bytes ++ piece)).memory ≡ memory =
      more_memory ∙ ap (λ (ms : List (ℕ × Bytes)). ms ++ memory) o.0 in
      let new_records : (reading_of (bytes ++ piece)).records ≡ records =
      more_records ∙ ap (λ (rs : List Record). rs ++ records) o.1 in
      rw (empty, new_memory, new_records) refl

  pub more_parts : parts_of (bytes ++ piece) ≡ parts_of bytes
      ++ due (len_of (parts_of bytes)) (header_of (bytes ++ piece)) memory records
  more_parts =
      elim (header_cases (header_of bytes)) [
        | inl none ↦ from_header none
        | inr there ↦
            elim later.header [
              | inl none ↦ from_header none
              | inr kept ↦ behind_header there.0 there.1 (kept ∙ there.1)
            ]
      ]

-- a reader that was fed a piece more has the parts of the piece
pub piece_parts : (bytes piece : List ℕ) (r : Reading) → HasRead r (bytes ++ piece) (reading_of bytes).memory
    (reading_of bytes).records
    → parts_of (bytes ++ piece) ≡ parts_of bytes ++ due (len_of (parts_of bytes)) (header_now r) r.memory r.records
piece_parts bytes piece r has =
    more_parts bytes piece r.memory r.records (ap (λ (q : Reading). q.memory) has.same)
    (ap (λ (q : Reading). q.records) has.same)
    ∙ ap (λ (h : Option Header). parts_of bytes ++ due (len_of (parts_of bytes)) h r.memory r.records)
    (ap header_now has.same)

-- a reader from which all was taken
pub all_taken : (bytes : List ℕ) (memory : List (ℕ × Bytes)) (records : List Record) (r : Reading) →
    HasRead r bytes memory records
    → HasRead (record r { memory = []; records = [] }) bytes (reading_of bytes).memory (reading_of bytes).records
all_taken bytes memory records r has =
    let m : (reading_of bytes).memory ++ [] ≡ memory ++ r.memory =
    append-nil (reading_of bytes).memory ∙ ap (λ (q : Reading). q.memory) has.same in
    let rs : (reading_of bytes).records ++ [] ≡ records ++ r.records =
    append-nil (reading_of bytes).records ∙ ap (λ (q : Reading). q.records) has.same in
    record {
      are_bytes = has.are_bytes;
      same = has.same ∙ sym (
          ap (λ (ms : List (ℕ × Bytes)). record r { memory = ms; records = (reading_of bytes).records ++ [] }) m
          ∙ ap (λ (xs : List Record). record r { memory = memory ++ r.memory; records = xs }) rs);
    }

-- ---- a printer

-- all the parts that a printer has after a piece
parts_now : (bytes piece : List ℕ) (old mid : Printer) → IsShown bytes old →
    HasRead mid.reader (bytes ++ piece) (reading_of bytes).memory (reading_of bytes).records
    → mid.offset ≡ old.offset → parts_of (bytes ++ piece) ≡ parts_of bytes ++ parts_due mid
parts_now bytes piece old mid shown has same =
    piece_parts bytes piece mid.reader has
    ∙ ap (λ (n : ℕ). parts_of bytes ++ due n (header_now mid.reader) mid.reader.memory mid.reader.records)
    (sym (same ∙ shown.offset))

len_now : (bytes piece : List ℕ) (old mid : Printer) → IsShown bytes old →
    HasRead mid.reader (bytes ++ piece) (reading_of bytes).memory (reading_of bytes).records
    → mid.offset ≡ old.offset → len_of (parts_of (bytes ++ piece)) ≡ mid.offset + len_of (parts_due mid)
len_now bytes piece old mid shown has same =
    omega (
      arith,
      ap len_of (parts_now bytes piece old mid shown has same),
      len_of-append (parts_of bytes)
          (parts_due mid),
      same,
      shown.offset,
    )

count_now : (bytes piece : List ℕ) (old mid : Printer) → IsShown bytes old →
    HasRead mid.reader (bytes ++ piece) (reading_of bytes).memory (reading_of bytes).records
    → mid.records ≡ old.records → length (reading_of (bytes ++ piece)).records ≡ mid.records + length mid.reader.records
count_now bytes piece old mid shown has same =
    omega (
      arith,
      ap (λ (q : Reading). length q.records) has.same,
      length-append (reading_of bytes).records
          mid.reader.records,
      same,
      shown.count,
    )

-- what is printed has fewer bytes than the trace
pub room_now : (bytes piece : List ℕ) (old mid : Printer) → IsShown bytes old →
    HasRead mid.reader (bytes ++ piece) (reading_of bytes).memory (reading_of bytes).records
    → mid.offset ≡ old.offset → mid.offset + len_of (parts_due mid) ≤ length bytes + length piece
room_now bytes piece old mid shown has same =
    omega (
      arith,
      len_now bytes piece old mid shown has same,
      parts_within (bytes ++ piece) has.are_bytes,
      length-append bytes piece,
    )

pub few_now : (bytes piece : List ℕ) (old mid : Printer) → IsShown bytes old →
    HasRead mid.reader (bytes ++ piece) (reading_of bytes).memory (reading_of bytes).records
    → mid.records ≡ old.records → mid.records + length mid.reader.records ≤ length bytes + length piece
few_now bytes piece old mid shown has same =
    omega (
      arith,
      count_now bytes piece old mid shown has same,
      count_within (bytes ++ piece) has.are_bytes,
      length-append bytes piece,
    )

-- a printer after all that the reader had to give was taken
pub shown_after : (bytes piece : List ℕ) (old mid new : Printer) → IsShown bytes old →
    HasRead mid.reader (bytes ++ piece) (reading_of bytes).memory (reading_of bytes).records
    → mid.offset ≡ old.offset → mid.records ≡ old.records → new.reader ≡ record mid.reader { memory = []; records = [] }
    → new.offset ≡ mid.offset + len_of (parts_due mid) → new.records ≡ mid.records + length mid.reader.records →
    IsShown (bytes ++ piece) new
shown_after bytes piece old mid new shown has offset records reader taken counted = record {
  read = subst (λ (r : Reading). HasRead r (bytes ++ piece) (reading_of (bytes ++ piece)).memory
      (reading_of (bytes ++ piece)).records) (sym reader)
      (all_taken (bytes ++ piece) (reading_of bytes).memory (reading_of bytes).records mid.reader has);
  no_memory = ap (λ (r : Reading). r.memory) reader;
  no_records = ap (λ (r : Reading). r.records) reader;
  offset = taken ∙ sym (len_now bytes piece old mid shown has offset);
  count = counted ∙ sym (count_now bytes piece old mid shown has records);
}

pub shown_now : (bytes piece : List ℕ) (old mid new : Printer) → IsShown bytes old →
    HasRead mid.reader (bytes ++ piece) (reading_of bytes).memory (reading_of bytes).records
    → mid.offset ≡ old.offset → mid.records ≡ old.records → PrintsAll mid new → IsShown (bytes ++ piece) new
shown_now bytes piece old mid new shown has offset records prints =
    shown_after bytes piece old mid new shown has offset records prints.reader prints.puts.offset prints.count

pub lines_now : (bytes piece : List ℕ) (old mid new : Printer) → IsShown bytes old →
    HasRead mid.reader (bytes ++ piece) (reading_of bytes).memory (reading_of bytes).records
    → mid.offset ≡ old.offset → string_bytes mid.text ≡ [] → PrintsAll mid new →
    lines_of (bytes ++ piece) ≡ lines_of bytes ++ string_bytes new.text
lines_now bytes piece old mid new shown has offset empty prints =
    let place : 0 + len_of (parts_of bytes) ≡ mid.offset = omega (arith, offset, shown.offset) in
    let text : string_bytes new.text ≡ lines_from mid.offset (parts_due mid) =
    prints.puts.text ∙ ap (λ (l : List ℕ). l ++ lines_from mid.offset (parts_due mid)) empty in
    ap (lines_from 0) (parts_now bytes piece old mid shown has offset)
    ∙ lines_from-append (parts_of bytes) (parts_due mid) 0
    ∙ ap (λ (n : ℕ). lines_of bytes ++ lines_from n (parts_due mid)) place
    ∙ ap (λ (l : List ℕ). lines_of bytes ++ l) (sym text)
