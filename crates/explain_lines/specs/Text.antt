-- The text of why a map is refused.
use Rattle.std.specs.Prelude.{ℕ, List, ◌++◌, codes}
use Rattle.std.specs.Fmt.{decimal}
use Rattle.explain_lines.specs.declared.fault.MapCause.{MapCause}
use Rattle.explain_lines.specs.declared.fault.MapCause.TheVariants as causes
use Rattle.explain_lines.specs.declared.fault.MapFault.{MapFault}

-- what the line has to have
abbrev pub cause_text : MapCause → List ℕ
cause_text causes.Log = codes "the number of a log, 0 to 255"
cause_text causes.Place = codes "the place of a record in its log, a decimal number"
cause_text causes.Time = codes "a time"
cause_text causes.Twice = codes "a record that no line before names"
cause_text causes.OutOfMemory = codes "more memory"

abbrev pub fault_at : ℕ → MapCause → List ℕ
fault_at line causes.OutOfMemory = codes "out of memory"
fault_at line cause = codes "map line=" ++ decimal line ++ codes " expected " ++ cause_text cause

abbrev pub fault_text : MapFault → List ℕ
fault_text fault = fault_at fault.line fault.cause
