-- Three runs of lines are one.
use Rattle.std.proofs.Common.{◌≡◌, ℕ, ◌+◌, List, [], ◌++◌, length, map, sym, ap, ◌∙◌, append_assoc, arith, string_bytes}
use Rattle.lf_rules.specs.Fits.{Bytes}
use Rattle.lf_rules.specs.declared.event.Record.{Record}
use Rattle.lf_codec.specs.Reading.{Reading, header_now}
use Rattle.text_dump.specs.declared.printer.Printer.{Printer}
use Rattle.text_dump.specs.Lines.{Part, lines_from, len_of, memory_part, record_part}
use Rattle.text_dump.specs.Printing.{header_due, PrintsAll}
use Rattle.text_dump.proofs.Lengths.{lines_from-append, len_of-append}

module _ (o1 o2 o3 o4 : ℕ) (hs ms rs : List Part) (e2 : o2 ≡ o1 + len_of hs) (e3 : o3 ≡ o2 + len_of ms) where
  all_lines : (t1 t2 t3 t4 : List ℕ) → t2 ≡ t1 ++ lines_from o1 hs → t3 ≡ t2 ++ lines_from o2 ms →
      t4 ≡ t3 ++ lines_from o3 rs → t4 ≡ t1 ++ lines_from o1 (hs ++ (ms ++ rs))
  all_lines t1 t2 t3 t4 l2 l3 l4 =
      let a = lines_from o1 hs in
      let b = lines_from o2 ms in
      let d = lines_from o3 rs in
      let rest : lines_from o2 (ms ++ rs) ≡ b ++ d = lines_from-append ms rs o2
      ∙ ap (λ (n : ℕ). b ++ lines_from n rs) (sym e3) in
      let whole : lines_from o1 (hs ++ (ms ++ rs)) ≡ a ++ (b ++ d) =
      lines_from-append hs (ms ++ rs) o1 ∙ ap (λ (n : ℕ). a ++ lines_from n (ms ++ rs)) (sym e2)
      ∙ ap (λ (l : List ℕ). a ++ l) rest in
      l4 ∙ ap (λ (t : List ℕ). t ++ d) (l3 ∙ ap (λ (t : List ℕ). t ++ b) l2)
      ∙ append_assoc (t1 ++ a) b d ∙ append_assoc t1 a (b ++ d) ∙ ap (λ (l : List ℕ). t1 ++ l) (sym whole)

  all_len : o4 ≡ o3 + len_of rs → o4 ≡ o1 + len_of (hs ++ (ms ++ rs))
  all_len e4 = omega (arith, e2, e3, e4, len_of-append hs (ms ++ rs), len_of-append ms rs)

pub printed_all : (old new : Printer) (t1 t2 : List ℕ) (o1 o2 : ℕ) (h m : Reading) → h ≡ old.reader →
    m ≡ record h { memory = [] } → new.reader ≡ record m { records = [] }
    → t1 ≡ string_bytes old.text ++ lines_from old.offset (header_due old.offset (header_now old.reader)) →
    o1 ≡ old.offset + len_of (header_due old.offset (header_now old.reader))
    → t2 ≡ t1 ++ lines_from o1 (map memory_part h.memory) → o2 ≡ o1 + len_of (map memory_part h.memory)
    → string_bytes new.text ≡ t2 ++ lines_from o2 (map record_part m.records) →
    new.offset ≡ o2 + len_of (map record_part m.records)
    → new.records ≡ old.records + length m.records → PrintsAll old new
printed_all old new t1 t2 o1 o2 h m eh em en l1 e1 l2 e2 l3 e3 count =
    let hs = header_due old.offset (header_now old.reader) in
    let ms = map memory_part old.reader.memory in
    let rs = map record_part old.reader.records in
    let own : h.memory ≡ old.reader.memory = ap (λ (q : Reading). q.memory) eh in
    let same : m.records ≡ old.reader.records = ap (λ (q : Reading). q.records) em
    ∙ ap (λ (q : Reading). q.records) eh in
    let l2' : t2 ≡ t1 ++ lines_from o1 ms = l2 ∙ ap (λ (x : List (ℕ × Bytes)). t1
    ++ lines_from o1 (map memory_part x)) own in
    let e2' : o2 ≡ o1 + len_of ms = e2 ∙ ap (λ (x : List (ℕ × Bytes)). o1 + len_of (map memory_part x)) own in
    let l3' : string_bytes new.text ≡ t2 ++ lines_from o2 rs =
    l3 ∙ ap (λ (x : List Record). t2 ++ lines_from o2 (map record_part x)) same in
    let e3' : new.offset ≡ o2 + len_of rs = e3 ∙ ap (λ (x : List Record). o2 + len_of (map record_part x)) same in
    record {
      reader = en ∙ ap (λ (q : Reading). record q { records = [] })
          (em ∙ ap (λ (q : Reading). record q { memory = [] }) eh);
      puts = record {
        text = all_lines old.offset o1 o2 new.offset hs ms rs e1 e2' (string_bytes old.text) t1 t2
            (string_bytes new.text) l1 l2' l3';
        offset = all_len old.offset o1 o2 new.offset hs ms rs e1 e2' e3';
      };
      count = count ∙ ap (λ (x : List Record). old.records + length x) same;
    }
