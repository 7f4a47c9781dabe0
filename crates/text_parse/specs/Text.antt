-- The names of fields, and the texts of faults.
use Rattle.std.specs.Prelude.{ℕ, List, ◌++◌, codes}
use Rattle.std.specs.Fmt.{decimal}
use Rattle.text_parse.specs.declared.fault.Name.{Name}
use Rattle.text_parse.specs.declared.fault.Name.TheVariants as names
use Rattle.text_parse.specs.declared.fault.Expected.{Expected}
use Rattle.text_parse.specs.declared.fault.Expected.TheVariants as due
use Rattle.text_parse.specs.declared.fault.TextFault.{TextFault}

abbrev pub name_text : Name → List ℕ
name_text names.Version = codes "version="
name_text names.Ports = codes "ports="
name_text names.Banks = codes "banks="
name_text names.Block = codes "block="
name_text names.Factor = codes "factor="
name_text names.Memory = codes "memory="
name_text names.Bytes = codes "bytes="
name_text names.Port = codes "port="
name_text names.Bank = codes "bank="
name_text names.Number = codes "number="
name_text names.Tag = codes "tag="
name_text names.Size = codes "size="
name_text names.Address = codes "address="
name_text names.Register = codes "register="
name_text names.Mask = codes "mask="
name_text names.Count = codes "count="

abbrev pub expected_text : Expected → List ℕ
expected_text due.Word = codes "lfts, memory, an event or end"
expected_text (due.Field name) = name_text name
expected_text (due.Number most) = codes "a number up to " ++ decimal most
expected_text due.Hexadecimal = codes "0x and up to 16 hexadecimal digits"
expected_text (due.Bytes most) = codes "up to " ++ decimal most ++ codes " bytes of two hexadecimal digits each"
expected_text due.End = codes "the end of the line or a comment"

abbrev pub fault_text : TextFault → List ℕ
fault_text fault = codes "column=" ++ decimal fault.column ++ codes " expected " ++ expected_text fault.expected
