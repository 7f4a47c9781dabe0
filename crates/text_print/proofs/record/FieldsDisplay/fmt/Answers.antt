use Rattle.std.proofs.Common.{sym}
use Rattle.std.proofs.Output.{has_written_of_eq}
use Rattle.std.specs.Prelude.{codes}
use Rattle.std.specs.Fmt.{decimal}
use Rattle.text_print.specs.Text.{hexadecimal}
use Rattle.text_print.proofs.Fields.{grouped}
use Rattle.text_print.proofs.record.FieldsDisplay.fmt.Goals as goal

pub returns-in-Issue-clause-writes : goal.returns-in-Issue-clause-writes
returns-in-Issue-clause-writes g c plain ok =
    let fields =
    grouped (codes " tag=") (decimal c.in-Issue.tag) (codes " size=") (decimal c.in-Issue.size) (codes " address=")
    (hexadecimal c.in-Issue.address) in
    rw c.in-Issue.is (has_written_of_eq _ _ _ _ _ (sym fields) (c.write.ensures.writes plain ok))
