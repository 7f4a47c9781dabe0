use Rattle.std.proofs.Common.{◌≡◌, ◌+◌, ◌∙◌, [], None, length, ap, sym, refl, rules, arith}
use Rattle.lf_codec.specs.Reading.{Reading, reading_of, header_of, header_now}
use Rattle.text_dump.specs.declared.printer.Printer.{Printer}
use Rattle.text_dump.specs.Lines.{len_of}
use Rattle.text_dump.specs.Chosen.{header_lines, taken_of}
use Rattle.text_dump.specs.Printing.{given_by}
use Rattle.text_dump.proofs.Pieces.{room_now, few_now, shown_after}
use Rattle.text_dump.proofs.Taken.{none_taken, held_now, held_unread, shown_unread, due_end}
use Rattle.text_dump.proofs.printer.Printer.choose.Goals as goal

pub returns-in_default-clause-shown : goal.returns-in_default-clause-shown
returns-in_default-clause-shown c bytes shown =
    let mid : Printer = record {
      reader = c.feed.new.reader;
      text = c.args.self.now.text;
      offset =
          c.args.self.now.offset;
      records = c.args.self.now.records;
    } in
    let has = c.in_ok-enough.ensures.read bytes (reading_of bytes).memory (reading_of bytes).records shown.read in
    let none : header_now c.feed.new.reader ≡ None = search rules in
    shown_unread bytes c.args.piece.now c.args.self.now mid shown has refl refl none

pub returns-in_default-clause-lines : goal.returns-in_default-clause-lines
returns-in_default-clause-lines c bytes out shown held =
    let has = c.in_ok-enough.ensures.read bytes (reading_of bytes).memory (reading_of bytes).records shown.read in
    let none : header_now c.feed.new.reader ≡ None = search rules in
    held_unread bytes c.args.piece.now c.feed.new.reader has c.args.chosen.now out none held

pub add_records-requires-clause-room : goal.add_records-requires-clause-room
add_records-requires-clause-room c =
    let mid : Printer = record {
      reader = c.feed.new.reader;
      text = c.args.self.now.text;
      offset =
          c.args.self.now.offset;
      records = c.args.self.now.records;
    } in
    let bytes = c.requires.0 in
    let shown = c.requires.1 in
    let has = c.in_ok-enough.ensures.read bytes (reading_of bytes).memory (reading_of bytes).records shown.read in
    let reader = ap (λ (p : Printer). p.reader) c.add_header.ensures.rest in
    let end = due_end mid c.in-Some.header c.add_header.new.self.offset (sym c.in-Some.ensures.now)
    c.in_ok-add_header.ensures.offset in
    omega (
      arith,
      room_now bytes c.args.piece.now c.args.self.now mid shown has refl,
      c.requires.2,
      end,
      ap
          (λ (q : Reading). len_of (given_by q)) reader,
    )

pub add_records-requires-clause-count : goal.add_records-requires-clause-count
add_records-requires-clause-count c =
    let mid : Printer = record {
      reader = c.feed.new.reader;
      text = c.args.self.now.text;
      offset =
          c.args.self.now.offset;
      records = c.args.self.now.records;
    } in
    let bytes = c.requires.0 in
    let shown = c.requires.1 in
    let has = c.in_ok-enough.ensures.read bytes (reading_of bytes).memory (reading_of bytes).records shown.read in
    omega (
      arith,
      few_now bytes c.args.piece.now c.args.self.now mid shown has refl,
      c.requires.2,
      ap (λ (p : Printer). p.records) c.add_header.ensures.rest,
      ap (λ (p : Printer). length p.reader.records) c.add_header.ensures.rest,
    )

pub returns-clause-shown : goal.returns-clause-shown
returns-clause-shown c bytes shown =
    let mid : Printer = record {
      reader = c.feed.new.reader;
      text = c.args.self.now.text;
      offset =
          c.args.self.now.offset;
      records = c.args.self.now.records;
    } in
    let has = c.in_ok-enough.ensures.read bytes (reading_of bytes).memory (reading_of bytes).records shown.read in
    let reader = ap (λ (p : Printer). p.reader) c.add_header.ensures.rest in
    let end = due_end mid c.in-Some.header c.add_header.new.self.offset (sym c.in-Some.ensures.now)
    c.in_ok-add_header.ensures.offset in
    let last = c.in_ok-add_records.ensures in
    shown_after bytes c.args.piece.now c.args.self.now mid c.add_records.new.self shown has refl refl
    (last.reader ∙ ap (λ (q : Reading). record q { memory = []; records = [] }) reader)
    (last.offset ∙ ap (λ (q : Reading). c.add_header.new.self.offset + len_of (given_by q)) reader ∙ end)
    (last.count ∙ ap (λ (p : Printer). p.records + length p.reader.records) c.add_header.ensures.rest)

pub returns-clause-lines : goal.returns-clause-lines
returns-clause-lines c bytes out shown held =
    let choice = c.args.chosen.now.choice in
    let n = c.args.self.now.offset in
    let q = c.feed.new.reader in
    let piece = c.args.piece.now in
    let has = c.in_ok-enough.ensures.read bytes (reading_of bytes).memory (reading_of bytes).records shown.read in
    let some = sym c.in-Some.ensures.now in
    let first = c.in_ok-add_header.ensures.holds out (header_lines (header_of bytes)) (taken_of choice bytes) held
    (none_taken bytes piece q has choice n shown.offset) in
    held_now bytes piece q has choice n shown.offset c.in-Some.header some c.add_records.new.chosen
    c.add_header.new.chosen.choice out c.add_header.new.self.offset c.add_header.new.self.reader
    c.add_header.ensures.choice c.add_records.ensures.choice c.in_ok-add_header.ensures.offset
    (ap (λ (p : Printer). p.reader) c.add_header.ensures.rest)
    (c.in_ok-add_records.ensures.holds out _ (taken_of choice bytes) first)
