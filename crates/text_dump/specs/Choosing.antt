-- What of the chosen lines is still to be told.
use Rattle.std.specs.Prelude.{◌≡◌, ◌⊎◌, ℕ, ◌<◌, ◌≤◌, List, [], ◌++◌, map, take, Option, Some, None, Bool, Result, Ok}
use Rattle.std.specs.Prelude.{Err, ◌↔◌, IsTrue, string_bytes}
use Rattle.std.specs.List.{concat}
use Rattle.lf_codec.specs.Reading.{header_of}
use Rattle.run_stream.specs.Account.{Account, WentOut}
use Rattle.run_stream.specs.Gathered.{IsAllRead, GoesOnToLast}
use Rattle.text_dump.specs.declared.choice.Choice.{Choice}
use Rattle.text_dump.specs.declared.chosen.Chosen.{Chosen}
use Rattle.text_dump.specs.declared.fault.DumpFault.{DumpFault}
use Rattle.text_dump.specs.declared.fault.DumpFault.TheVariants.{Memory, Write}
use Rattle.text_dump.specs.declared.printer.Printer.{Printer}
use Rattle.text_dump.specs.Chosen.{last_of, header_lines, taken_of, chosen_lines}
use Rattle.text_dump.specs.Dump.{HasFault, IsShown, IsToldBut, piece_len}

-- what goes out as soon as it is read: all lines, unless the last are asked for
abbrev pub at_once : Option ℕ → List (List ℕ) → List ℕ
at_once None lines = concat lines
at_once (Some most) lines = []

-- what goes out at the end
abbrev pub at_end : Option ℕ → List (List ℕ) → List (List ℕ)
at_end None lines = []
at_end (Some most) lines = last_of (Some most) lines

-- What went out and what is still to be told are this line of a header and these lines.
pub record Holds (chosen : Chosen) (out head : List ℕ) (lines : List (List ℕ)) : Type 0 where
  pub text : out ++ string_bytes chosen.text ≡ head ++ at_once chosen.choice.last lines
  pub kept : map string_bytes chosen.lines.items ≡ at_end chosen.choice.last lines

-- ... those of these bytes
abbrev pub HasChosen : Chosen → List ℕ → List ℕ → Type 0
HasChosen chosen out bytes = Holds chosen out (header_lines (header_of bytes)) (taken_of chosen.choice bytes)

-- what is still to be told
abbrev pub rest_of : Chosen → List ℕ
rest_of chosen = string_bytes chosen.text ++ concat (map string_bytes chosen.lines.items)

-- What goes out at once went out.
abbrev pub TellsAtOnce : Option ℕ → Chosen → Chosen → Account → Account → Type 0
TellsAtOnce None old new writer writer' =
    WentOut writer writer' (string_bytes old.text) × (string_bytes new.text ≡ []) × (new.lines.items ≡ old.lines.items)
TellsAtOnce (Some most) old new writer writer' = (new ≡ old) × (writer' ≡ writer)

-- What goes out before the end: all lines of the bytes that were read, or none where the last are asked for.
abbrev pub IsToldOf : Option ℕ → Choice → List ℕ → List ℕ → Type 0
IsToldOf None choice out bytes = out ≡ chosen_lines choice bytes
IsToldOf (Some most) choice out bytes = out ≡ []

-- All that stands in these bytes was shown, and this went out of it.
pub record IsChosen (choice : Choice) (printer : Printer) (chosen : Chosen) (out bytes : List ℕ) : Type 0 where
  pub shown : IsShown bytes printer
  pub holds : HasChosen chosen out bytes
  pub told : IsToldOf choice.last choice out bytes
  pub same : chosen.choice ≡ choice

-- What went out of the chosen lines where memory ran out, and then this line. Where the last lines are asked for, it is
-- all of those of the bytes that the reads answered, or none. Otherwise it is all lines, but for those of at most one
-- read.
abbrev pub IsChosenBut : Option ℕ → Choice → Account → Account → Account → Account → List ℕ → Type 0
IsChosenBut None choice old new writer writer' line =
    IsToldBut piece_len (chosen_lines choice) old new writer writer' line
IsChosenBut (Some most) choice old new writer writer' line =
    IsToldBut 0 (chosen_lines choice) old new writer writer' line ⊎ WentOut writer writer' line

-- What one more piece does, after these bytes, of which this went out.
abbrev pub Chooses : Account → Account → Choice → Printer → Chosen → List ℕ → List ℕ → List ℕ →
    Result Bool DumpFault → Type 0
Chooses old new choice printer chosen out bytes piece (Ok enough) = (IsTrue enough ↔ HasFault (bytes ++ piece))
    × ((lines : List ℕ) × WentOut old new lines × IsChosen choice printer chosen (out ++ lines) (bytes ++ piece))
Chooses old new choice printer chosen out bytes piece (Err Write) = (lines : List ℕ)
    × (chosen_lines choice (bytes ++ piece) ≡ out ++ lines) × ((n : ℕ) × WentOut old new (take n lines))
Chooses old new choice printer chosen out bytes piece (Err Memory) = new ≡ old
Chooses old new choice printer chosen out bytes piece (Err fault) = ⊥

-- All that is left went out, and the dump stops by this fault; or the writer failed on the way.
abbrev pub Rests : Account → Account → Chosen → DumpFault → DumpFault → Type 0
Rests old new chosen fault answer =
    ((answer ≡ fault) × (new.failures ≡ 0) × WentOut old new (rest_of chosen))
    ⊎ ((answer ≡ Write) × (0 < new.failures) × ((n : ℕ) × WentOut old new (take n (rest_of chosen))))

-- All bytes were read that were to be, with no failure, and their chosen lines went out or are held.
pub record IsWhollyChosen (old new writer writer' : Account) (turns : ℕ) (printer : Printer) (chosen : Chosen) : Type
    0 where
  pub reads : new.calls ≤ turns
  pub read : new.failures ≡ 0
  pub written : writer'.failures ≡ 0
  pub bytes : List ℕ
  pub out : List ℕ
  pub shown : IsShown bytes printer
  pub all : IsAllRead HasFault piece_len old new bytes
  pub once : GoesOnToLast old.pieces new.pieces
  pub went : WentOut writer writer' out
  pub holds : HasChosen chosen out bytes
