-- The texts of faults.
use Rattle.std.specs.Prelude.{ℕ, List, ◌++◌, codes}
use Rattle.std.specs.Fmt.{decimal}
use Rattle.lf_codec.specs.Text.{cause_text}
use Rattle.text_parse.specs.Text.{fault_text as line_fault_text}
use Rattle.text_assemble.specs.declared.fault.Part.{Part}
use Rattle.text_assemble.specs.declared.fault.Part.TheVariants as parts
use Rattle.text_assemble.specs.declared.fault.AssembleCause.{AssembleCause}
use Rattle.text_assemble.specs.declared.fault.AssembleCause.TheVariants as causes
use Rattle.text_assemble.specs.declared.fault.AssembleFault.{AssembleFault}

abbrev pub part_text : Part → List ℕ
part_text parts.Lfts = codes "lfts"
part_text parts.Memory = codes "memory"
part_text parts.Event = codes "an event or end"
part_text parts.Nothing = codes "no more lines"

abbrev pub fault_at : ℕ → AssembleCause → List ℕ
fault_at line (causes.Text fault) = codes "text line=" ++ decimal line ++ codes " " ++ line_fault_text fault
fault_at line (causes.Part part) = codes "text line=" ++ decimal line ++ codes " expected " ++ part_text part
fault_at line (causes.Bytes len) = codes "text line=" ++ decimal line ++ codes " expected " ++ decimal len
    ++ codes " bytes"
fault_at line (causes.Masks count) = codes "text line=" ++ decimal line ++ codes " expected " ++ decimal count
    ++ codes " masks"
fault_at line causes.Factor = codes "text line=" ++ decimal line ++ codes " expected factor=1 before version 3"
fault_at line (causes.Format cause) = codes "format " ++ cause_text cause ++ codes " line=" ++ decimal line
fault_at line causes.Memory = codes "memory"

abbrev pub fault_text : AssembleFault → List ℕ
fault_text fault = fault_at fault.line fault.cause
