-- The text that is printed of a trace gives that trace.
use Rattle.std.proofs.Common.{◌≡◌, ℕ, suc, ◌+◌, ◌-◌, ◌<◌, true, eqb, ltb, List, [], ◌∷◌, ◌++◌, length, map, Option}
use Rattle.std.proofs.Common.{Some, None, Result, Ok, Err, refl, sym, ap, subst, ◌∙◌, append_assoc, append-nil, arith}
use Rattle.std.proofs.Common.{inl, inr, codes}
use Rattle.std.specs.List.{slice_split, flat_map, AllByRecursion}
use Rattle.std.specs.Fmt.{decimal}
use Rattle.std.specs.Global.{Vec}
use Rattle.std.specs.Prelude.{IfOk, IfErr}
use Rattle.lf_rules.specs.Fits.{Bytes}
use Rattle.lf_rules.specs.declared.event.Record.{Record}
use Rattle.lf_codec.specs.declared.header.Header.{Header}
use Rattle.lf_codec.specs.declared.fault.CodecFault.{CodecFault}
use Rattle.lf_codec.specs.Layout.{header_bytes, memory_bytes, record_bytes, end_bytes}
use Rattle.lf_codec.specs.Reading.{fault_so_far, trace_fault}
use Rattle.lf_codec.specs.Laws.{IsSomeTrace}
use Rattle.lf_codec.specs.Trace.{FitsHeader, FitsMemory, FitsIn, IsTrace}
use Rattle.lf_codec.proofs.Backward.{fault_cases}
use Rattle.lf_codec.proofs.Faults.{faults_stand}
use Rattle.lf_codec.proofs.Forward.{few_of_trace}
use Rattle.lf_codec.proofs.TraceLaws.{trace_is_read}
use Rattle.text_dump.specs.Lines.{placed_line, lines_from, len_of, memory_part, record_part, parts_in, closing_of}
use Rattle.text_dump.specs.Lines.{lines_of}
use Rattle.text_dump.specs.Lines.{text_of as trace_text}
use Rattle.text_dump.proofs.Lengths.{lines_from-append}
use Rattle.text_parse.specs.declared.line.Line.{Line}
use Rattle.text_parse.specs.declared.line.Line.TheVariants as lines
use Rattle.text_parse.specs.declared.defaults.Defaults.{Defaults}
use Rattle.text_parse.specs.Defaults.{starting, defaults_after}
use Rattle.text_parse.specs.Lines.{line_of, text_of, LineInRange}
use Rattle.text_parse.proofs.PrintedLines.{line_again}
use Rattle.text_assemble.specs.declared.due.Due.{Due}
use Rattle.text_assemble.specs.declared.due.Due.TheVariants as due
use Rattle.text_assemble.specs.declared.fault.AssembleCause.TheVariants.{Memory}
use Rattle.text_assemble.specs.declared.fault.AssembleFault.{AssembleFault}
use Rattle.text_assemble.specs.Assembly.{ports_of, behind, due_after, line_bytes, judged, put_behind, said, added}
use Rattle.text_assemble.specs.Assembly.{ended, assembled, is_newline, least_of, assembled_text, Assembles}
use Rattle.text_assemble.proofs.LineLoop.{text_added}
use Rattle.text_assemble.proofs.Plain.{is_plain, split_plain, placed_is_plain, record_is_plain, memory_is_plain}
use Rattle.text_assemble.proofs.Plain.{header_is_plain, end_is_plain}
use Rattle.text_assemble.proofs.Ranges.{record_in_range, header_in_range, block_le, event_passes}

-- ---- no fault stands in a beginning of a trace

abbrev none : Option CodecFault
none = None

two_answers : (f : CodecFault) → none ≡ Some f → ⊥
two_answers f e = cc

pub fine_before : (bytes more : List ℕ) → trace_fault (bytes ++ more) ≡ None → fault_so_far bytes ≡ None
fine_before bytes more whole =
    elim (fault_cases (fault_so_far bytes)) [
      | inl fine ↦ fine
      | inr found ↦ absurd (two_answers found.0 (sym whole ∙ (faults_stand bytes more found.0 found.1).whole))
    ]

-- ---- one line

abbrev comment : ℕ → List ℕ
comment offset = codes " ; at " ++ decimal offset

line_read : (ports : ℕ) (defaults : Defaults) (line : Line) (offset : ℕ) → LineInRange ports line
    → line_of ports defaults (text_of line ++ codes " ; at " ++ decimal offset) ≡ Ok line
unfolding line_of
line_read ports defaults line offset fits =
    ap (line_of ports defaults) (append_assoc (text_of line) (codes " ; at ") (decimal offset))
    ∙ rw (line_again ports defaults line (comment offset) fits refl) refl

blank_read : (ports : ℕ) (defaults : Defaults) → line_of ports defaults [] ≡ Ok lines.Blank
unfolding line_of
blank_read ports defaults = refl

line_added : (now : Due) (defaults : Defaults) (bytes : List ℕ) (text : List ℕ) (line : Line) (next : Due)
    → line_of (ports_of now) defaults text ≡ Ok line → due_after now line ≡ Ok next →
    fault_so_far (bytes ++ line_bytes line) ≡ None
    → added now defaults bytes text ≡ Ok (next, defaults_after defaults line, bytes ++ line_bytes line)
unfolding added
line_added now defaults bytes text line next read then fine =
    ap (said now defaults bytes) read ∙ ap (put_behind defaults bytes line) then ∙ ap
    (judged next (defaults_after defaults line) (bytes ++ line_bytes line)) fine

one_line : (now : Due) (defaults : Defaults) (bytes : List ℕ) (number offset : ℕ) (line : Line) (next : Due)
    (rest : List ℕ)
    → LineInRange (ports_of now) line → is_plain (text_of line) ≡ true → due_after now line ≡ Ok next
    → fault_so_far (bytes ++ line_bytes line) ≡ None
    → assembled now defaults bytes number (slice_split is_newline (placed_line (text_of line) offset ++ rest))
    ≡ assembled next (defaults_after defaults line) (bytes ++ line_bytes line) (number + 1)
    (slice_split is_newline rest)
one_line now defaults bytes number offset line next rest fits plain then fine =
    let text = text_of line ++ codes " ; at " ++ decimal offset in
    let texts : slice_split is_newline (placed_line (text_of line) offset ++ rest) ≡ text
    ∷ slice_split is_newline rest =
    ap (slice_split is_newline) (append_assoc text (10 ∷ []) rest)
    ∙ split_plain text rest (placed_is_plain (text_of line) offset plain) in
    ap (assembled now defaults bytes number) texts
    ∙ text_added now defaults bytes number text (slice_split is_newline rest) [] (Ok []) next
    (defaults_after defaults line) (bytes ++ line_bytes line)
    (line_added now defaults bytes text line next (line_read (ports_of now) defaults line offset fits) then fine)

-- ---- the memory

one_less : (n : ℕ) → suc n - 1 ≡ n
one_less n = omega arith

eqb_same : (a b : ℕ) → a ≡ b → eqb a b ≡ true
eqb_same a b e = grind arith

memory_due : (h : Header) (n block : ℕ) (bytes : Bytes) → length bytes.items ≡ h.block
    → due_after (due.Memory h (suc n)) (lines.Memory block bytes) ≡ Ok (behind h n)
memory_due h n block bytes len =
    rw (eqb_same (length bytes.items) h.block len) (ap (λ (k : ℕ). Ok (behind h k)) (one_less n))

memory_lines : (h : Header) (defaults : Defaults) (memory : List (ℕ × Bytes)) (least : ℕ) (bytes : List ℕ)
    (number offset : ℕ) (rest more : List ℕ)
    → FitsHeader h → FitsMemory h.block least memory → trace_fault ((bytes ++ flat_map memory_bytes memory) ++ more)
    ≡ None
    → assembled (behind h (length memory)) defaults bytes number
    (slice_split is_newline (lines_from offset (map memory_part memory) ++ rest))
    ≡ assembled (due.Event h 0) defaults (bytes ++ flat_map memory_bytes memory) (number + length memory)
    (slice_split is_newline rest)
memory_lines h defaults [] least bytes number offset rest more header fits whole =
    let same : bytes ≡ bytes ++ [] = sym (append-nil bytes) in
    let count : number ≡ number + 0 = omega arith in
    ap (λ (b : List ℕ). assembled (due.Event h 0) defaults b number (slice_split is_newline rest)) same
    ∙ ap (λ (n : ℕ). assembled (due.Event h 0) defaults (bytes ++ []) n (slice_split is_newline rest)) count
memory_lines h defaults (m ∷ memory) least bytes number offset rest more header fits whole =
    let line = lines.Memory m.0 m.1 in
    let later = lines_from (offset + length (memory_bytes m)) (map memory_part memory) in
    let small = block_le h.block header.block_size in
    let carried = fits.2 in
    let grouped : bytes ++ (memory_bytes m ++ flat_map memory_bytes memory) ≡ (bytes ++ memory_bytes m)
    ++ flat_map memory_bytes memory =
    sym (append_assoc bytes (memory_bytes m) (flat_map memory_bytes memory)) in
    let still : trace_fault (((bytes ++ memory_bytes m) ++ flat_map memory_bytes memory) ++ more) ≡ None =
    subst (λ (b : List ℕ). trace_fault (b ++ more) ≡ None) grouped whole in
    let here : trace_fault ((bytes ++ memory_bytes m) ++ (flat_map memory_bytes memory ++ more)) ≡ None =
    subst (λ (b : List ℕ). trace_fault b ≡ None) (append_assoc (bytes ++ memory_bytes m)
    (flat_map memory_bytes memory) more) still in
    let count : number + 1 + length memory ≡ number + suc (length memory) = omega arith in
    ap (λ (t : List ℕ). assembled (due.Memory h (suc (length memory))) defaults bytes number (slice_split is_newline t))
    (append_assoc (placed_line (text_of line) offset) later rest)
    ∙ one_line (due.Memory h (suc (length memory))) defaults bytes number offset line (behind h (length memory))
    (later ++ rest)
    (fits.1, record { few = omega (arith, carried.size, small); bytes_fit = carried.bytes_fit })
    (memory_is_plain m.0 m.1.items)
    (memory_due h (length memory) m.0 m.1 carried.size) (fine_before (bytes ++ memory_bytes m)
    (flat_map memory_bytes memory ++ more) here)
    ∙ memory_lines h defaults memory (m.0 + 1) (bytes ++ memory_bytes m) (number + 1)
    (offset + length (memory_bytes m)) rest more header fits.3 still
    ∙ ap (λ (b : List ℕ). assembled (due.Event h 0) defaults b (number + 1 + length memory)
    (slice_split is_newline rest)) (sym grouped)
    ∙ ap (λ (n : ℕ). assembled (due.Event h 0) defaults (bytes ++ (memory_bytes m ++ flat_map memory_bytes memory)) n
    (slice_split is_newline rest)) count

-- ---- the event records

-- the next number of each bank behind these records
abbrev defaults_behind : Defaults → List Record → Defaults
defaults_behind defaults [] = defaults
defaults_behind defaults (r ∷ records) = defaults_behind (defaults_after defaults (lines.Event r)) records

-- one record more, before which so many stand
record_due : (h : Header) (r : Record) (stand : ℕ) → FitsIn h r → stand < 0xffff_ffff
    → due_after (due.Event h stand) (lines.Event r) ≡ Ok (due.Event h (stand + 1))
record_due h r stand fits few =
    let counts : ltb stand 0xffff_ffff ≡ true = grind arith in
    rw (event_passes h r.bank r.event fits.fits.event, counts) refl

record_lines : (h : Header) (stand : ℕ) (defaults : Defaults) (records : List Record) (bytes : List ℕ)
    (number offset : ℕ) (rest more : List ℕ)
    → FitsHeader h → stand + length records < 0x1_0000_0000 → AllByRecursion (FitsIn h) records
    → trace_fault ((bytes ++ flat_map record_bytes records) ++ more) ≡ None
    → assembled (due.Event h stand) defaults bytes number (slice_split is_newline
    (lines_from offset (map record_part records) ++ rest))
    ≡ assembled (due.Event h (stand + length records)) (defaults_behind defaults records)
    (bytes ++ flat_map record_bytes records)
    (number + length records) (slice_split is_newline rest)
record_lines h stand defaults [] bytes number offset rest more header few fits whole =
    let same : bytes ≡ bytes ++ [] = sym (append-nil bytes) in
    let count : number ≡ number + 0 = omega arith in
    let stands : stand ≡ stand + 0 = omega arith in
    ap (λ (b : List ℕ). assembled (due.Event h stand) defaults b number (slice_split is_newline rest)) same
    ∙ ap (λ (n : ℕ). assembled (due.Event h stand) defaults (bytes ++ []) n (slice_split is_newline rest)) count
    ∙ ap (λ (n : ℕ). assembled (due.Event h n) defaults (bytes ++ []) (number + 0) (slice_split is_newline rest)) stands
record_lines h stand defaults (r ∷ records) bytes number offset rest more header few fits whole =
    let line = lines.Event r in
    let after = defaults_after defaults line in
    let behind_all = defaults_behind after records in
    let later = lines_from (offset + length (record_bytes r)) (map record_part records) in
    let all = bytes ++ (record_bytes r ++ flat_map record_bytes records) in
    let grouped : bytes ++ (record_bytes r ++ flat_map record_bytes records) ≡ (bytes ++ record_bytes r)
    ++ flat_map record_bytes records =
    sym (append_assoc bytes (record_bytes r) (flat_map record_bytes records)) in
    let still : trace_fault (((bytes ++ record_bytes r) ++ flat_map record_bytes records) ++ more) ≡ None =
    subst (λ (b : List ℕ). trace_fault (b ++ more) ≡ None) grouped whole in
    let here : trace_fault ((bytes ++ record_bytes r) ++ (flat_map record_bytes records ++ more)) ≡ None =
    subst (λ (b : List ℕ). trace_fault b ≡ None) (append_assoc (bytes ++ record_bytes r)
    (flat_map record_bytes records) more) still in
    let count : number + 1 + length records ≡ number + suc (length records) = omega arith in
    let stands : stand + 1 + length records ≡ stand + suc (length records) = omega arith in
    ap (λ (t : List ℕ). assembled (due.Event h stand) defaults bytes number (slice_split is_newline t))
    (append_assoc (placed_line (text_of line) offset) later rest)
    ∙ one_line (due.Event h stand) defaults bytes number offset line (due.Event h (stand + 1)) (later ++ rest)
    (record_in_range h r header fits.0)
    (record_is_plain r) (record_due h r stand fits.0 (omega arith))
    (fine_before (bytes ++ record_bytes r) (flat_map record_bytes records ++ more) here)
    ∙ record_lines h (stand + 1) after records (bytes ++ record_bytes r) (number + 1)
    (offset + length (record_bytes r)) rest more header
    (omega arith) fits.1 still
    ∙ ap (λ (b : List ℕ). assembled (due.Event h (stand + 1 + length records)) behind_all b
    (number + 1 + length records) (slice_split is_newline rest)) (sym grouped)
    ∙ ap (λ (n : ℕ). assembled (due.Event h (stand + 1 + length records)) behind_all all n
    (slice_split is_newline rest)) count
    ∙ ap (λ (n : ℕ). assembled (due.Event h n) behind_all all (number + suc (length records))
    (slice_split is_newline rest)) stands

-- ---- the end

-- nothing stands behind the last newline
last_line : (defaults : Defaults) (bytes : List ℕ) (number : ℕ) → trace_fault bytes ≡ None →
    assembled due.Nothing defaults bytes number ([] ∷ []) ≡ Ok bytes
unfolding assembled
last_line defaults bytes number whole =
    let same : bytes ++ [] ≡ bytes = append-nil bytes in
    let fine : fault_so_far (bytes ++ []) ≡ None = fine_before (bytes ++ []) []
    (subst (λ (b : List ℕ). trace_fault b ≡ None) (sym (append-nil (bytes ++ []) ∙ same)) whole) in
    text_added due.Nothing defaults bytes number [] [] [] (Ok []) due.Nothing defaults (bytes ++ [])
    (line_added due.Nothing defaults bytes [] lines.Blank due.Nothing (blank_read 0 defaults) refl fine)
    ∙ ap (λ (b : List ℕ). ended (number + 1) b (trace_fault b)) same
    ∙ ap (ended (number + 1) bytes) whole

end_lines : (h : Header) (stand : ℕ) (defaults : Defaults) (bytes : List ℕ) (number offset count : ℕ) →
    count < 0x1_0000_0000 → trace_fault (bytes ++ end_bytes count) ≡ None
    → assembled (due.Event h stand) defaults bytes number (slice_split is_newline
    (placed_line (codes "end count=" ++ decimal count) offset)) ≡ Ok (bytes ++ end_bytes count)
end_lines h stand defaults bytes number offset count fits whole =
    let text = placed_line (codes "end count=" ++ decimal count) offset in
    ap (λ (t : List ℕ). assembled (due.Event h stand) defaults bytes number (slice_split is_newline t))
    (sym (append-nil text))
    ∙ one_line (due.Event h stand) defaults bytes number offset (lines.End count) due.Nothing [] fits
    (end_is_plain count) refl
    (fine_before (bytes ++ end_bytes count) [] (subst (λ (b : List ℕ). trace_fault b ≡ None)
    (sym (append-nil (bytes ++ end_bytes count))) whole))
    ∙ last_line defaults (bytes ++ end_bytes count) (number + 1) whole

-- ---- the whole text

header_due : (h : Header) → FitsHeader h → due_after due.Lfts (lines.Header h) ≡ Ok (behind h h.memory_count)
header_due h header = rw header.one_block refl

-- the text of this trace, part by part
text_by_parts : (bytes : List ℕ) (h : Header) (memory : List (ℕ × Bytes)) (records : List Record) →
    IsTrace bytes h memory records
    → (memory_at : ℕ) × (records_at : ℕ) × (end_at : ℕ)
    × (trace_text bytes ≡ placed_line (text_of (lines.Header h)) 0
    ++ (lines_from memory_at (map memory_part memory)
    ++ (lines_from records_at (map record_part records)
    ++ placed_line (text_of (lines.End (length records))) end_at)))
text_by_parts bytes h memory records trace =
    let read = trace_is_read bytes h memory records trace in
    let memory_at = 0 + length (header_bytes h) in
    let records_at = memory_at + len_of (map memory_part memory) in
    let end_at = len_of (parts_in (Some h) memory records) in
    let first = placed_line (text_of (lines.Header h)) 0 in
    let second = lines_from memory_at (map memory_part memory) in
    let third = lines_from records_at (map record_part records) in
    let last = placed_line (text_of (lines.End (length records))) end_at in
    let front : lines_of bytes ≡ first ++ (second ++ third) =
    rw (read.1, read.2, read.3) (ap (λ (l : List ℕ). first ++ l)
    (lines_from-append (map memory_part memory) (map record_part records) memory_at)) in
    let back : closing_of bytes ≡ last = rw (read.0, read.1, read.2, read.3) refl in
    let joined : trace_text bytes ≡ (first ++ (second ++ third)) ++ last =
    ap (λ (l : List ℕ). l ++ closing_of bytes) front ∙ ap (λ (l : List ℕ). (first ++ (second ++ third)) ++ l) back in (
      memory_at,
      records_at,
      end_at,
      joined ∙ append_assoc first (second ++ third) last
          ∙ ap (λ (l : List ℕ). first ++ l) (append_assoc second third last),
    )

pub trace_again : (bytes : List ℕ) (h : Header) (memory : List (ℕ × Bytes)) (records : List Record) →
    IsTrace bytes h memory records
    → assembled_text (trace_text bytes) ≡ Ok bytes
trace_again bytes h memory records trace =
    let header = trace.fits.header in
    let first = starting (least_of (slice_split is_newline (trace_text bytes))) in
    let parts = text_by_parts bytes h memory records trace in
    let memory_text = lines_from parts.0 (map memory_part memory) in
    let records_text = lines_from parts.1 (map record_part records) in
    let last = placed_line (text_of (lines.End (length records))) parts.2 in
    let a = header_bytes h in
    let b = flat_map memory_bytes memory in
    let c = flat_map record_bytes records in
    let d = end_bytes (length records) in
    let few = few_of_trace h memory records trace.fits in
    let no_fault : trace_fault (((a ++ b) ++ c) ++ d) ≡ None =
    subst (λ (t : List ℕ). trace_fault t ≡ None) trace.spelled (trace_is_read bytes h memory records trace).0 in
    let in_records : trace_fault ((a ++ b) ++ (c ++ d)) ≡ None =
    subst (λ (t : List ℕ). trace_fault t ≡ None) (append_assoc (a ++ b) c d) no_fault in
    let in_memory : trace_fault (a ++ (b ++ (c ++ d))) ≡ None =
    subst (λ (t : List ℕ). trace_fault t ≡ None) (append_assoc a b (c ++ d)) in_records in
    ap (λ (t : List ℕ). assembled due.Lfts first [] 0 (slice_split is_newline t)) parts.3
    ∙ one_line due.Lfts first [] 0 0 (lines.Header h) (behind h h.memory_count) (memory_text ++ (records_text ++ last))
    (header_in_range h header) (header_is_plain h) (header_due h header) (fine_before a (b ++ (c ++ d)) in_memory)
    ∙ ap (λ (n : ℕ). assembled (behind h n) first a 1 (slice_split is_newline
    (memory_text ++ (records_text ++ last)))) trace.fits.memory_count
    ∙ memory_lines h first memory 0 a 1 parts.0 (records_text ++ last) (c ++ d) header trace.fits.blocks in_records
    ∙ record_lines h 0 first records (a ++ b) (1 + length memory) parts.1 last d header (omega (arith, few))
    trace.fits.each no_fault
    ∙ end_lines h (0 + length records) (defaults_behind first records) ((a ++ b) ++ c)
    (1 + length memory + length records) parts.2 (length records)
    few no_fault
    ∙ ap (λ (t : List ℕ). Ok t) (sym trace.spelled)

-- ---- what is answered to the text of a trace

two_ends : (a b : List ℕ) (d : Result (List ℕ) AssembleFault) → d ≡ Ok a → d ≡ Ok b → a ≡ b
two_ends a b d p q = let same : Ok a ≡ Ok b = sym p ∙ q in cc

not_both : (a : List ℕ) (f : AssembleFault) (d : Result (List ℕ) AssembleFault) → d ≡ Ok a → d ≡ Err f → ⊥
not_both a f d p q = let same : Ok a ≡ Err f = sym p ∙ q in cc

pub ends_so : (r : Result (Vec ℕ) AssembleFault) (d : Result (List ℕ) AssembleFault) (bytes : List ℕ)
    → Assembles r d → d ≡ Ok bytes → IfOk r (λ v. v.items ≡ bytes)
ends_so (Ok v) d bytes is due = two_ends v.items bytes d is due
ends_so (Err f) d bytes is due = tt

pub fails_so : (r : Result (Vec ℕ) AssembleFault) (d : Result (List ℕ) AssembleFault) (bytes : List ℕ)
    → Assembles r d → d ≡ Ok bytes → IfErr r (λ f. f.cause ≡ Memory)
fails_so (Ok v) d bytes is due = tt
fails_so (Err f) d bytes (inl out) due = out
fails_so (Err f) d bytes (inr is) due = absurd (not_both bytes f d due is)

-- of some trace
pub some_again : (bytes : List ℕ) → IsSomeTrace bytes → assembled_text (trace_text bytes) ≡ Ok bytes
some_again bytes some = trace_again bytes some.header some.memory some.records some.trace
