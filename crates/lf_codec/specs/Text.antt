-- The texts of faults.
use Rattle.std.specs.Prelude.{ℕ, List, ◌++◌, codes}
use Rattle.std.specs.Fmt.{decimal}
use Rattle.lf_codec.specs.declared.fault.CodecCause.{CodecCause}
use Rattle.lf_codec.specs.declared.fault.CodecCause.TheVariants as causes
use Rattle.lf_codec.specs.declared.fault.CodecFault.{CodecFault}

abbrev pub cause_text : CodecCause → List ℕ
cause_text causes.Magic = codes "Magic"
cause_text causes.Version = codes "Version"
cause_text causes.HeaderRange = codes "HeaderRange"
cause_text causes.MemoryOrder = codes "MemoryOrder"
cause_text causes.Kind = codes "Kind"
cause_text causes.LogKind = codes "LogKind"
cause_text causes.BankRange = codes "BankRange"
cause_text causes.WrongBank = codes "WrongBank"
cause_text causes.Reserved = codes "Reserved"
cause_text causes.Op = codes "Op"
cause_text causes.Size = codes "Size"
cause_text causes.Alignment = codes "Alignment"
cause_text causes.BlockRange = codes "BlockRange"
cause_text causes.MaskRange = codes "MaskRange"
cause_text causes.TooMany = codes "TooMany"
cause_text causes.Count = codes "Count"
cause_text causes.Truncated = codes "Truncated"
cause_text causes.Trailing = codes "Trailing"
cause_text causes.NoMemory = codes "NoMemory"

abbrev pub fault_text : CodecFault → List ℕ
fault_text fault = cause_text fault.cause ++ codes " at=" ++ decimal fault.offset
