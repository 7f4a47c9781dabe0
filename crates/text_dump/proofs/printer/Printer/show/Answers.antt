use Rattle.std.proofs.Common.{arith, refl}
use Rattle.lf_codec.specs.Reading.{reading_of}
use Rattle.text_dump.specs.declared.printer.Printer.{Printer}
use Rattle.text_dump.proofs.Pieces.{room_now, few_now, shown_now, lines_now}
use Rattle.text_dump.proofs.printer.Printer.show.Goals as goal

pub print-requires-clause-room : goal.print-requires-clause-room
print-requires-clause-room c =
    let mid : Printer = record {
      reader = c.feed.new.reader;
      text = c.clear.new.self;
      offset =
          c.args.self.now.offset;
      records = c.args.self.now.records;
    } in
    let bytes = c.requires.0 in
    let shown = c.requires.1 in
    let has = c.in_ok-enough.ensures.read bytes (reading_of bytes).memory (reading_of bytes).records shown.read in
    omega (arith, room_now bytes c.args.piece.now c.args.self.now mid shown has refl, c.requires.2)

pub print-requires-clause-count : goal.print-requires-clause-count
print-requires-clause-count c =
    let mid : Printer = record {
      reader = c.feed.new.reader;
      text = c.clear.new.self;
      offset =
          c.args.self.now.offset;
      records = c.args.self.now.records;
    } in
    let bytes = c.requires.0 in
    let shown = c.requires.1 in
    let has = c.in_ok-enough.ensures.read bytes (reading_of bytes).memory (reading_of bytes).records shown.read in
    omega (arith, few_now bytes c.args.piece.now c.args.self.now mid shown has refl, c.requires.2)

pub returns-clause-shown : goal.returns-clause-shown
returns-clause-shown c bytes shown =
    let mid : Printer = record {
      reader = c.feed.new.reader;
      text = c.clear.new.self;
      offset =
          c.args.self.now.offset;
      records = c.args.self.now.records;
    } in
    let has = c.in_ok-enough.ensures.read bytes (reading_of bytes).memory (reading_of bytes).records shown.read in
    shown_now bytes c.args.piece.now c.args.self.now mid c.print.new.self shown has refl refl c.in_ok-print.ensures

pub returns-clause-lines : goal.returns-clause-lines
returns-clause-lines c bytes shown =
    let mid : Printer = record {
      reader = c.feed.new.reader;
      text = c.clear.new.self;
      offset =
          c.args.self.now.offset;
      records = c.args.self.now.records;
    } in
    let has = c.in_ok-enough.ensures.read bytes (reading_of bytes).memory (reading_of bytes).records shown.read in
    lines_now bytes c.args.piece.now c.args.self.now mid c.print.new.self shown has refl c.clear.ensures.bytes
    c.in_ok-print.ensures
