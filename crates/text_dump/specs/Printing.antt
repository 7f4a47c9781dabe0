-- What a printer puts into its text.
use Rattle.std.specs.Prelude.{◌≡◌, ℕ, zero, suc, ◌+◌, List, [], ◌++◌, length, map, Option, string_bytes}
use Rattle.lf_codec.specs.declared.header.Header.{Header}
use Rattle.lf_codec.specs.Reading.{Reading, header_now}
use Rattle.text_dump.specs.declared.printer.Printer.{Printer}
use Rattle.text_dump.specs.Chosen.{marked_line}
use Rattle.text_dump.specs.Lines.{Part, header_parts, memory_part, record_part, lines_from, len_of}

-- the header, where nothing was printed yet
abbrev pub header_due : ℕ → Option Header → List Part
header_due zero h = header_parts h
header_due (suc n) h = []

-- its line among chosen lines
abbrev pub marked_due : ℕ → Header → List ℕ
marked_due zero h = marked_line h
marked_due (suc n) h = []

-- the memory and event records that a reader has to give
abbrev pub given_by : Reading → List Part
given_by r = map memory_part r.memory ++ map record_part r.records

-- what is there to be printed
abbrev pub parts_due : Printer → List Part
parts_due p = header_due p.offset (header_now p.reader) ++ given_by p.reader

-- The lines of these parts were put behind the text.
pub record Puts (old new : Printer) (parts : List Part) : Type 0 where
  pub text : string_bytes new.text ≡ string_bytes old.text ++ lines_from old.offset parts
  pub offset : new.offset ≡ old.offset + len_of parts

-- All that the reader has to give was taken and printed.
pub record PrintsAll (old new : Printer) : Type 0 where
  pub reader : new.reader ≡ record old.reader { memory = []; records = [] }
  pub puts : Puts old new (parts_due old)
  pub count : new.records ≡ old.records + length old.reader.records
