-- One more line.
use Rattle.std.proofs.Common.{◌≡◌, ℕ, ◌+◌, List, [], ◌∷◌, ◌++◌, length, map, Option, Some, refl, sym, ap, ◌∙◌}
use Rattle.std.proofs.Common.{append_assoc, append-nil, arith, string_bytes}
use Rattle.std.proofs.lemmas.List.Sums.{sum_by-cons}
use Rattle.lf_rules.specs.Fits.{Bytes}
use Rattle.lf_codec.specs.declared.header.Header.{Header}
use Rattle.lf_codec.specs.declared.fault.CodecFault.{CodecFault}
use Rattle.lf_codec.specs.Layout.{u16_bytes, u32_bytes, header_bytes, memory_bytes}
use Rattle.lf_codec.specs.Reading.{trace_fault, header_now}
use Rattle.text_print.specs.Text.{header_text, memory_text}
use Rattle.text_dump.specs.declared.printer.Printer.{Printer}
use Rattle.text_dump.specs.Lines.{Part, placed_line, lines_from, len_of, header_part, memory_part, closing, closing_of}
use Rattle.text_dump.specs.Printing.{header_due, Puts}
use Rattle.text_dump.specs.Dump.{IsShown}

length_header : (h : Header) → length (header_bytes h) ≡ 16
unfolding u16_bytes u32_bytes
length_header h = refl

-- the line of the header
pub put_first : (old new : Printer) (h : Header) → old.offset ≡ 0 → header_now old.reader ≡ Some h →
    string_bytes new.text ≡ string_bytes old.text ++ placed_line (header_text h) 0
    → new.offset ≡ 16 → Puts old new (header_due old.offset (header_now old.reader))
put_first old new h none there text offset =
    let lines : lines_from old.offset (header_due old.offset (header_now old.reader)) ≡ placed_line (header_text h) 0 =
    rw (none, there) (append-nil (placed_line (header_text h) 0)) in
    let one : 0 + len_of (header_part h ∷ []) ≡ 16 = omega (
      arith,
      sum_by-cons (λ (p : Part). length p.bytes)
          (header_part h) [],
      length_header h,
    ) in
    let len : old.offset + len_of (header_due old.offset (header_now old.reader)) ≡ 16 = rw (none, there) one in
    record { text = text ∙ ap (λ (l : List ℕ). string_bytes old.text ++ l) (sym lines); offset = offset ∙ sym len }

-- where the header ends
pub header_end : (n : ℕ) (h : Header) → n ≡ 0 → 16 ≡ n + len_of (header_due n (Some h))
header_end n h none =
    let one : 0 + len_of (header_part h ∷ []) ≡ 16 = omega (
      arith,
      sum_by-cons (λ (p : Part). length p.bytes)
          (header_part h) [],
      length_header h,
    ) in
    rw none (sym one)

module _ (at n : ℕ) (m : ℕ × Bytes) (rest memory : List (ℕ × Bytes)) (first : memory ≡ m ∷ rest)
    (size : n ≡ length (memory_bytes m)) where
  -- the line of a memory record
  pub one_line : (text more all : List ℕ) → more ≡ text ++ placed_line (memory_text m.0 m.1.items) at →
      text ++ lines_from at (map memory_part memory) ≡ all
      → more ++ lines_from (at + n) (map memory_part rest) ≡ all
  one_line text more all put so_far =
      let line = placed_line (memory_text m.0 m.1.items) at in
      let later = lines_from (at + length (memory_bytes m)) (map memory_part rest) in
      ap (λ (k : ℕ). more ++ lines_from (at + k) (map memory_part rest)) size
      ∙ ap (λ (t : List ℕ). t ++ later) put
      ∙ append_assoc text line later
      ∙ sym (ap (λ (ms : List (ℕ × Bytes)). text ++ lines_from at (map memory_part ms)) first)
      ∙ so_far

  pub one_end : (all : ℕ) → at + len_of (map memory_part memory) ≡ all → at + n + len_of (map memory_part rest) ≡ all
  one_end all so_far =
      omega (
        arith,
        so_far,
        size,
        ap (λ (ms : List (ℕ × Bytes)). len_of (map memory_part ms)) first,
        sum_by-cons (λ (p : Part). length p.bytes) (memory_part m) (map memory_part rest),
      )

-- what closes the text
pub closing_is : (bytes : List ℕ) (printer : Printer) (fault : Option CodecFault) → IsShown bytes printer →
    fault ≡ trace_fault bytes
    → closing fault printer.records printer.offset ≡ closing_of bytes
closing_is bytes printer fault shown same = rw (same, shown.count, shown.offset) refl
