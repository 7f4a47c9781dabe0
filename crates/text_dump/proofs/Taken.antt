-- What one more piece adds to the chosen lines.
use Rattle.std.proofs.Common.{◌≡◌, ℕ, zero, suc, ◌+◌, ◌<◌, List, [], ◌∷◌, ◌++◌, length, map, Bool, Option, Some, None}
use Rattle.std.proofs.Common.{refl, sym, ap, subst, ◌∙◌, append_assoc, append-nil, arith, inl, inr, ◌⊎◌}
use Rattle.std.specs.Prelude.{◌&&◌, if◌then◌else◌}
use Rattle.std.proofs.lemmas.List.{map-append}
use Rattle.std.proofs.lemmas.List.Sums.{sum_by-cons}
use Rattle.lf_rules.specs.Fits.{Bytes}
use Rattle.lf_rules.specs.declared.event.Record.{Record}
use Rattle.lf_codec.specs.declared.header.Header.{Header}
use Rattle.lf_codec.specs.Reader.{HasRead}
use Rattle.lf_codec.specs.Reading.{Reading, reading_of, header_of, header_now}
use Rattle.text_dump.specs.Lines.{Part, placed_line, len_of, header_part, memory_part, record_part, parts_in, parts_of}
use Rattle.text_dump.specs.declared.choice.Choice.{Choice}
use Rattle.text_dump.specs.declared.chosen.Chosen.{Chosen}
use Rattle.text_dump.specs.declared.printer.Printer.{Printer}
use Rattle.text_dump.specs.Chosen.{Candidate, memory_candidate, record_candidate, candidates, is_late, line_at}
use Rattle.text_dump.specs.Chosen.{taken_from, header_lines, lines_in, taken_of, marked_line}
use Rattle.text_dump.specs.Choosing.{Holds, HasChosen}
use Rattle.text_dump.specs.Printing.{marked_due, header_due, given_by, parts_due}
use Rattle.text_dump.specs.Dump.{IsShown}
use Rattle.text_dump.proofs.Order.{orderly}
use Rattle.text_dump.proofs.Lengths.{header_cases, len_of-append, no_parts}
use Rattle.text_dump.proofs.Pieces.{later, only_some, shown_after, due_none}

-- ---- lines of candidates

cand_len-cons : (c : Candidate) (cs : List Candidate) → len_of (map (λ (c : Candidate). c.part) (c ∷ cs))
    ≡ length c.part.bytes + len_of (map (λ (c : Candidate). c.part) cs)
cand_len-cons c cs = sum_by-cons (λ (p : Part). length p.bytes) c.part (map (λ (c : Candidate). c.part) cs)

pub taken_from-append : (choice : Choice) (xs ys : List Candidate) (offset : ℕ)
    → taken_from choice offset (xs ++ ys) ≡ taken_from choice offset xs
    ++ taken_from choice (offset + len_of (map (λ (c : Candidate). c.part) xs)) ys
taken_from-append choice [] ys offset = let same : offset ≡ offset + len_of [] = omega arith in
    ap (λ (n : ℕ). taken_from choice n ys) same
taken_from-append choice (x ∷ xs) ys offset =
    let n = length x.part.bytes in
    let there : offset + n + len_of (map (λ (c : Candidate). c.part) xs) ≡ offset
    + len_of (map (λ (c : Candidate). c.part) (x ∷ xs)) = omega (arith, cand_len-cons x xs) in
    ap (λ (l : List (List ℕ)). line_at choice offset x ++ l)
    (taken_from-append choice xs ys (offset + n) ∙ ap (λ (k : ℕ). taken_from choice (offset + n) xs
    ++ taken_from choice k ys) there)
    ∙ sym (append_assoc (line_at choice offset x) (taken_from choice (offset + n) xs)
    (taken_from choice (offset + len_of (map (λ (c : Candidate). c.part) (x ∷ xs))) ys))

memory_parts : (choice : Choice) (memory : List (ℕ × Bytes)) →
    map (λ (c : Candidate). c.part) (map (memory_candidate choice) memory) ≡ map memory_part memory
memory_parts choice [] = refl
memory_parts choice (m ∷ memory) = ap (λ (ps : List Part). memory_part m ∷ ps) (memory_parts choice memory)

record_parts : (choice : Choice) (h : Header) (records : List Record) →
    map (λ (c : Candidate). c.part) (map (record_candidate choice h) records) ≡ map record_part records
record_parts choice h [] = refl
record_parts choice h (r ∷ records) = ap (λ (ps : List Part). record_part r ∷ ps) (record_parts choice h records)

candidate_parts : (choice : Choice) (h : Header) (memory : List (ℕ × Bytes)) (records : List Record)
    → map (λ (c : Candidate). c.part) (candidates choice h memory records) ≡ map memory_part memory
    ++ map record_part records
candidate_parts choice h memory records =
    map-append (λ (c : Candidate). c.part) (map (memory_candidate choice) memory)
    (map (record_candidate choice h) records)
    ∙ rw (memory_parts choice memory, record_parts choice h records) refl

-- the lines of memory records and then of event records are those of all
pub both_taken : (choice : Choice) (h : Header) (memory : List (ℕ × Bytes)) (records : List Record)
    (offset between : ℕ) → between ≡ offset + len_of (map memory_part memory)
    → taken_from choice offset (map (memory_candidate choice) memory)
    ++ taken_from choice between (map (record_candidate choice h) records)
    ≡ taken_from choice offset (candidates choice h memory records)
both_taken choice h memory records offset between at =
    let same : between ≡ offset + len_of (map (λ (c : Candidate). c.part) (map (memory_candidate choice) memory)) =
    at ∙ ap (λ (ps : List Part). offset + len_of ps) (sym (memory_parts choice memory)) in
    ap (λ (n : ℕ). taken_from choice offset (map (memory_candidate choice) memory)
    ++ taken_from choice n (map (record_candidate choice h) records)) same
    ∙ sym (taken_from-append choice (map (memory_candidate choice) memory) (map (record_candidate choice h) records)
    offset)

-- ---- one more in a loop

pub one_more : (choice : Choice) (offset : ℕ) (c : Candidate) (rest all : List Candidate) (n : ℕ)
    (done whole : List (List ℕ)) → all ≡ c ∷ rest → n ≡ length c.part.bytes
    → done ++ taken_from choice offset all ≡ whole → (done ++ line_at choice offset c)
    ++ taken_from choice (offset + n) rest ≡ whole
one_more choice offset c rest all n done whole first size so_far =
    ap (λ (k : ℕ). (done ++ line_at choice offset c) ++ taken_from choice (offset + k) rest) size
    ∙ append_assoc done (line_at choice offset c) (taken_from choice (offset + length c.part.bytes) rest)
    ∙ sym (ap (λ (cs : List Candidate). done ++ taken_from choice offset cs) first)
    ∙ so_far

-- ---- a piece more

joined_candidates : (a a' b b' : List Candidate) → (b ≡ []) ⊎ (a' ≡ []) →
    (a ++ a') ++ (b ++ b') ≡ (a ++ b) ++ (a' ++ b')
joined_candidates a a' b b' (inl none) = rw (none, append-nil a) (append_assoc a a' b')
joined_candidates a a' b b' (inr none) = rw (none, append-nil a) (sym (append_assoc a b b'))

module _ (choice : Choice) (h : Header) (m memory : List (ℕ × Bytes)) (r records : List Record)
    (one : (r ≡ []) ⊎ (memory ≡ [])) where
  no_line : (map (record_candidate choice h) r ≡ []) ⊎ (map (memory_candidate choice) memory ≡ [])
  no_line =
      elim one [
        | inl none ↦ inl (ap (λ (rs : List Record). map (record_candidate choice h) rs) none)
        | inr none ↦ inr (ap (λ (ms : List (ℕ × Bytes)). map (memory_candidate choice) ms) none)
      ]

  more_candidates : candidates choice h (m ++ memory) (r ++ records) ≡ candidates choice h m r
      ++ candidates choice h memory records
  more_candidates =
      rw (map-append (memory_candidate choice) m memory, map-append (record_candidate choice h) r records)
      (joined_candidates (map (memory_candidate choice) m) (map (memory_candidate choice) memory)
      (map (record_candidate choice h) r) (map (record_candidate choice h) records) no_line)

  pub more_taken : (offset : ℕ) → offset ≡ len_of (parts_in (Some h) m r)
      → lines_in choice (Some h) (m ++ memory) (r ++ records) ≡ lines_in choice (Some h) m r
      ++ taken_from choice offset (candidates choice h memory records)
  more_taken offset at =
      let start = length (header_part h).bytes in
      let there : start + len_of (map (λ (c : Candidate). c.part) (candidates choice h m r)) ≡ offset =
      ap (λ (ps : List Part). start + len_of ps) (candidate_parts choice h m r)
      ∙ sym (at ∙ sum_by-cons (λ (p : Part). length p.bytes) (header_part h) (map memory_part m ++ map record_part r))
      in
      ap (taken_from choice start) more_candidates
      ∙ taken_from-append choice (candidates choice h m r) (candidates choice h memory records) start
      ∙ ap (λ (n : ℕ). taken_from choice start (candidates choice h m r)
      ++ taken_from choice n (candidates choice h memory records)) there

some_len : (h : Header) (m : List (ℕ × Bytes)) (r : List Record) → 0 < len_of (parts_in (Some h) m r)
some_len h m r = omega (
  arith,
  sum_by-cons (λ (p : Part). length p.bytes) (header_part h)
      (map memory_part m ++ map record_part r),
)

marked_none : (n : ℕ) (h : Header) → 0 < n → marked_due n h ≡ []
marked_none zero h some = absurd (omega (arith, some))
marked_none (suc n) h some = refl

module _ (bytes piece : List ℕ) (q : Reading) (has : HasRead q (bytes ++ piece) (reading_of bytes).memory
    (reading_of bytes).records) where
  more_memory : (reading_of (bytes ++ piece)).memory ≡ (reading_of bytes).memory ++ q.memory
  more_memory = ap (λ (r : Reading). r.memory) has.same

  more_records : (reading_of (bytes ++ piece)).records ≡ (reading_of bytes).records ++ q.records
  more_records = ap (λ (r : Reading). r.records) has.same

  header_is : header_of (bytes ++ piece) ≡ header_now q
  header_is = ap header_now has.same

  -- the header stays
  header_kept : (header_of bytes ≡ None) ⊎ (header_of (bytes ++ piece) ≡ header_of bytes)
  header_kept = (later bytes piece q.memory q.records more_memory more_records).header

  -- before the header nothing stands
  pub still_none : header_now q ≡ None → header_of bytes ≡ None
  still_none none =
      elim header_kept [
        | inl old ↦ old
        | inr kept ↦ sym kept ∙ header_is ∙ none
      ]

  pub nothing_read : header_now q ≡ None → (q.memory ≡ []) × (q.records ≡ [])
  nothing_read none =
      let now = (orderly (bytes ++ piece)).unread (header_is ∙ none) in
      let before = (orderly bytes).unread (still_none none) in (
        ap (λ (ms : List (ℕ × Bytes)). ms ++ q.memory) (sym before.0) ∙ sym more_memory ∙ now.0,
        ap (λ (rs : List Record). rs ++ q.records) (sym before.1) ∙ sym more_records ∙ now.1,
      )

  module _ (choice : Choice) (n : ℕ) (at : n ≡ len_of (parts_of bytes)) where
    -- where no part was read no line was taken
    pub none_taken : n ≡ 0 → taken_of choice bytes ≡ []
    none_taken none =
        elim (header_cases (header_of bytes)) [
          | inl absent ↦ ap (λ (h : Option Header). lines_in choice h (reading_of bytes).memory
              (reading_of bytes).records) absent
          | inr there ↦
              let same : len_of (parts_of bytes) ≡ len_of (parts_in (Some there.0) (reading_of bytes).memory
              (reading_of bytes).records) =
              ap (λ (h : Option Header). len_of (parts_in h (reading_of bytes).memory (reading_of bytes).records))
              there.1 in
              absurd (omega (
                arith,
                none,
                at,
                same,
                some_len there.0 (reading_of bytes).memory
                    (reading_of bytes).records,
              ))
        ]

    module _ (h : Header) (some : header_now q ≡ Some h) where
      now_is : header_of (bytes ++ piece) ≡ Some h
      now_is = header_is ∙ some

      all_is : taken_of choice (bytes ++ piece) ≡ lines_in choice (Some h) ((reading_of bytes).memory ++ q.memory)
          ((reading_of bytes).records ++ q.records)
      all_is =
          ap (λ (x : Option Header). lines_in choice x (reading_of (bytes ++ piece)).memory
          (reading_of (bytes ++ piece)).records) now_is
          ∙ rw (more_memory, more_records) refl

      -- the header came with this piece
      module _ (none : header_of bytes ≡ None) where
        at_start : n ≡ 0
        at_start = at ∙ ap len_of (no_parts bytes none)

        first_head : header_lines (header_of bytes) ++ marked_due n h ≡ header_lines (header_of (bytes ++ piece))
        first_head = rw (none, at_start, now_is) refl

        first_lines : taken_of choice bytes ++ taken_from choice (n + len_of (header_due n (Some h)))
            (candidates choice h q.memory q.records) ≡ taken_of choice (bytes ++ piece)
        first_lines =
            let before = (orderly bytes).unread none in
            let start : n + len_of (header_due n (Some h)) ≡ length (header_part h).bytes =
            ap (λ (k : ℕ). k + len_of (header_due k (Some h))) at_start
            ∙ omega (arith, sum_by-cons (λ (p : Part). length p.bytes) (header_part h) []) in
            ap (λ (l : List (List ℕ)). l ++ taken_from choice (n + len_of (header_due n (Some h)))
            (candidates choice h q.memory q.records)) (none_taken at_start)
            ∙ ap (λ (k : ℕ). taken_from choice k (candidates choice h q.memory q.records)) start
            ∙ ap (λ (ms : List (ℕ × Bytes)). lines_in choice (Some h) (ms ++ q.memory) q.records) (sym before.0)
            ∙ ap (λ (rs : List Record). lines_in choice (Some h) ((reading_of bytes).memory ++ q.memory)
            (rs ++ q.records)) (sym before.1)
            ∙ sym all_is

      -- the header was there
      module _ (kept : header_of bytes ≡ Some h) where
        there : n ≡ len_of (parts_in (Some h) (reading_of bytes).memory (reading_of bytes).records)
        there = at ∙ ap (λ (x : Option Header). len_of (parts_in x (reading_of bytes).memory
            (reading_of bytes).records)) kept

        past : 0 < n
        past = omega (arith, there, some_len h (reading_of bytes).memory (reading_of bytes).records)

        later_head : header_lines (header_of bytes) ++ marked_due n h ≡ header_lines (header_of (bytes ++ piece))
        later_head = rw (kept, marked_none n h past, now_is) (append-nil (marked_line h))

        later_lines : taken_of choice bytes ++ taken_from choice (n + len_of (header_due n (Some h)))
            (candidates choice h q.memory q.records) ≡ taken_of choice (bytes ++ piece)
        later_lines =
            let place : n + len_of (header_due n (Some h)) ≡ n = omega (arith, ap len_of (due_none n (Some h) past)) in
            ap (λ (k : ℕ). taken_of choice bytes ++ taken_from choice k (candidates choice h q.memory q.records)) place
            ∙ ap (λ (x : Option Header). lines_in choice x (reading_of bytes).memory (reading_of bytes).records
            ++ taken_from choice n (candidates choice h q.memory q.records)) kept
            ∙ sym (more_taken choice h (reading_of bytes).memory q.memory (reading_of bytes).records q.records
            (only_some bytes piece q.memory q.records more_memory more_records) n there)
            ∙ sym all_is

      either_header : (header_of bytes ≡ None) ⊎ (header_of bytes ≡ Some h)
      either_header =
          elim header_kept [
            | inl none ↦ inl none
            | inr kept ↦ inr (sym kept ∙ now_is)
          ]

      pub head_now : header_lines (header_of bytes) ++ marked_due n h ≡ header_lines (header_of (bytes ++ piece))
      head_now = elim either_header [ inl none ↦ first_head none | inr kept ↦ later_head kept ]

      pub more_lines : taken_of choice bytes ++ taken_from choice (n + len_of (header_due n (Some h)))
          (candidates choice h q.memory q.records) ≡ taken_of choice (bytes ++ piece)
      more_lines = elim either_header [ inl none ↦ first_lines none | inr kept ↦ later_lines kept ]

      pub held_now : (new : Chosen) (first : Choice) (out : List ℕ) (n1 : ℕ) (q1 : Reading) → first ≡ choice →
          new.choice ≡ first → n1 ≡ n + len_of (header_due n (Some h)) → q1 ≡ q
          → Holds new out (header_lines (header_of bytes) ++ marked_due n h)
          (taken_of choice bytes ++ taken_from first n1 (candidates first h q1.memory q1.records))
          → HasChosen new out (bytes ++ piece)
      held_now new first out n1 q1 same kept place reader held =
          let lines : taken_of choice bytes ++ taken_from first n1 (candidates first h q1.memory q1.records)
          ≡ taken_of new.choice (bytes ++ piece) =
          ap (λ (k : Choice). taken_of choice bytes ++ taken_from k n1 (candidates k h q1.memory q1.records)) same
          ∙ ap (λ (k : ℕ). taken_of choice bytes ++ taken_from choice k (candidates choice h q1.memory q1.records))
          place
          ∙ ap (λ (r : Reading). taken_of choice bytes ++ taken_from choice (n + len_of (header_due n (Some h)))
          (candidates choice h r.memory r.records)) reader
          ∙ more_lines
          ∙ ap (λ (k : Choice). taken_of k (bytes ++ piece)) (sym same ∙ sym kept) in
          subst (λ (ls : List (List ℕ)). Holds new out (header_lines (header_of (bytes ++ piece))) ls) lines
          (subst (λ (l : List ℕ). Holds new out l (taken_of choice bytes
          ++ taken_from first n1 (candidates first h q1.memory q1.records))) head_now held)

  pub held_unread : (chosen : Chosen) (out : List ℕ) → header_now q ≡ None → HasChosen chosen out bytes →
      HasChosen chosen out (bytes ++ piece)
  held_unread chosen out none held =
      let old = still_none none in
      let now : header_of (bytes ++ piece) ≡ None = header_is ∙ none in
      let head : header_lines (header_of bytes) ≡ header_lines (header_of (bytes ++ piece)) =
      ap header_lines (old ∙ sym now) in
      let lines : taken_of chosen.choice bytes ≡ taken_of chosen.choice (bytes ++ piece) =
      ap (λ (h : Option Header). lines_in chosen.choice h (reading_of bytes).memory (reading_of bytes).records) old
      ∙ sym (ap (λ (h : Option Header). lines_in chosen.choice h (reading_of (bytes ++ piece)).memory
      (reading_of (bytes ++ piece)).records) now) in
      subst (λ (ls : List (List ℕ)). Holds chosen out (header_lines (header_of (bytes ++ piece))) ls) lines
      (subst (λ (l : List ℕ). Holds chosen out l (taken_of chosen.choice bytes)) head held)

-- ---- a printer

due_of_none : (n : ℕ) → header_due n None ≡ []
due_of_none zero = refl
due_of_none (suc n) = refl

pub shown_unread : (bytes piece : List ℕ) (old mid : Printer) → IsShown bytes old →
    HasRead mid.reader (bytes ++ piece) (reading_of bytes).memory (reading_of bytes).records
    → mid.offset ≡ old.offset → mid.records ≡ old.records → header_now mid.reader ≡ None → IsShown (bytes ++ piece) mid
shown_unread bytes piece old mid shown has offset records none =
    let empty = nothing_read bytes piece mid.reader has none in
    let due : parts_due mid ≡ [] = rw (none, due_of_none mid.offset, empty.0, empty.1) refl in
    let same : mid.reader ≡ record mid.reader { memory = []; records = [] } =
    ap (λ (ms : List (ℕ × Bytes)). record mid.reader { memory = ms }) empty.0
    ∙ ap (λ (rs : List Record). record mid.reader { memory = []; records = rs }) empty.1 in
    shown_after bytes piece old mid mid shown has offset records same (omega (arith, ap len_of due))
    (omega (arith, ap (λ (rs : List Record). length rs) empty.1))

-- where the records begin that a reader gives
pub due_end : (mid : Printer) (h : Header) (n : ℕ) → header_now mid.reader ≡ Some h →
    n ≡ mid.offset + len_of (header_due mid.offset (Some h))
    → n + len_of (given_by mid.reader) ≡ mid.offset + len_of (parts_due mid)
due_end mid h n some at =
    omega (
      arith,
      at,
      ap (λ (x : Option Header). len_of (header_due mid.offset x)) some,
      len_of-append
          (header_due mid.offset (header_now mid.reader)) (given_by mid.reader),
    )

-- ---- what a call adds

pub one_added : (new : Chosen) (out head : List ℕ) (lines done : List (List ℕ)) (mine first : Choice) (c : Candidate)
    (fits : Bool) (text : List ℕ) (at : ℕ)
    → mine ≡ first → fits ≡ c.fits → text ≡ c.part.text
    → Holds new out head ((lines ++ done) ++ (if fits && is_late mine.from at then placed_line text at ∷ [] else []))
    → Holds new out head (lines ++ (done ++ line_at first at c))
one_added new out head lines done mine first c fits text at same is own held =
    let line : (if fits && is_late mine.from at then placed_line text at ∷ [] else []) ≡ line_at first at c =
    rw (same, is, own) refl in
    subst (Holds new out head) (append_assoc lines done _ ∙ ap (λ (l : List (List ℕ)). lines ++ (done ++ l)) line) held

pub added_all : (new : Chosen) (out head : List ℕ) (lines done rest whole : List (List ℕ)) →
    Holds new out head (lines ++ done) → done ++ rest ≡ whole → rest ≡ []
    → Holds new out head (lines ++ whole)
added_all new out head lines done rest whole held all none =
    subst (λ (l : List (List ℕ)). Holds new out head (lines ++ l))
    (sym (append-nil done) ∙ ap (λ (l : List (List ℕ)). done ++ l) (sym none) ∙ all) held

pub both_added : (new : Chosen) (out head : List ℕ) (lines : List (List ℕ)) (choice mine : Choice) (h : Header)
    (memory : List (ℕ × Bytes)) (records own : List Record) (offset between : ℕ)
    → mine ≡ choice → own ≡ records → between ≡ offset + len_of (map memory_part memory)
    → Holds new out head ((lines ++ taken_from choice offset (map (memory_candidate choice) memory))
    ++ taken_from mine between (map (record_candidate mine h) own))
    → Holds new out head (lines ++ taken_from choice offset (candidates choice h memory records))
both_added new out head lines choice mine h memory records own offset between same given at held =
    let first = taken_from choice offset (map (memory_candidate choice) memory) in
    subst (Holds new out head)
    (ap (λ (k : Choice). (lines ++ first) ++ taken_from k between (map (record_candidate k h) own)) same
    ∙ ap (λ (rs : List Record). (lines ++ first) ++ taken_from choice between (map (record_candidate choice h) rs))
    given
    ∙ append_assoc lines first (taken_from choice between (map (record_candidate choice h) records))
    ∙ ap (λ (l : List (List ℕ)). lines ++ l) (both_taken choice h memory records offset between at)) held
