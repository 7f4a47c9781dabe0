use Rattle.std.proofs.Common.{sym}
use Rattle.std.proofs.Output.{has_written_of_eq}
use Rattle.std.specs.Prelude.{codes}
use Rattle.std.specs.Fmt.{decimal}
use Rattle.text_print.specs.Text.{hexadecimal}
use Rattle.explain_refusal.proofs.Grouped.{three, four, five, six}
use Rattle.explain_refusal.proofs.allowed.AllowedDisplay.fmt.Goals as goal

pub returns-in-Kinds-clause-writes : goal.returns-in-Kinds-clause-writes
returns-in-Kinds-clause-writes g c plain ok =
    let text = four (codes "a trace of version ") (decimal c.in-Kinds.version) (codes " has the kinds 1 to ")
    (decimal c.in-Kinds.last) in
    rw c.in-Kinds.is (has_written_of_eq _ _ _ _ _ (sym text) (c.write-in-Kinds.ensures.writes plain ok))

pub returns-in-PortLogs-clause-writes : goal.returns-in-PortLogs-clause-writes
returns-in-PortLogs-clause-writes g c plain ok =
    let text = four (codes "a record of kind ") (decimal c.in-PortLogs.kind)
    (codes " stands in the log of a port, which are the logs 0 to ") (decimal c.in-PortLogs.last) in
    rw c.in-PortLogs.is (has_written_of_eq _ _ _ _ _ (sym text) (c.write-in-PortLogs.ensures.writes plain ok))

pub returns-in-BankLogs-clause-writes : goal.returns-in-BankLogs-clause-writes
returns-in-BankLogs-clause-writes g c plain ok =
    let text = six (codes "a record of kind ") (decimal c.in-BankLogs.kind)
    (codes " stands in the log of a bank, which are the logs ") (decimal c.in-BankLogs.first) (codes " to ")
    (decimal c.in-BankLogs.last) in
    rw c.in-BankLogs.is (has_written_of_eq _ _ _ _ _ (sym text) (c.write-in-BankLogs.ensures.writes plain ok))

pub returns-in-LogsBank-clause-writes : goal.returns-in-LogsBank-clause-writes
returns-in-LogsBank-clause-writes g c plain ok =
    let text = four (codes "log ") (decimal c.in-LogsBank.log) (codes " is the log of bank ")
    (decimal c.in-LogsBank.bank) in
    rw c.in-LogsBank.is (has_written_of_eq _ _ _ _ _ (sym text) (c.write-in-LogsBank.ensures.writes plain ok))

pub returns-in-BlocksBank-clause-writes : goal.returns-in-BlocksBank-clause-writes
returns-in-BlocksBank-clause-writes g c plain ok =
    let text = six (codes "second-level block ") (decimal c.in-BlocksBank.second) (codes " is of bank ")
    (decimal c.in-BlocksBank.owner) (codes ", and the record names bank ") (decimal c.in-BlocksBank.bank) in
    rw c.in-BlocksBank.is (has_written_of_eq _ _ _ _ _ (sym text) (c.write-in-BlocksBank.ensures.writes plain ok))

pub returns-in-LogLimit-clause-writes : goal.returns-in-LogLimit-clause-writes
returns-in-LogLimit-clause-writes g c plain ok =
    let text = five (codes "a log has at most ") (decimal c.in-LogLimit.limit) (codes " records in version ")
    (decimal c.in-LogLimit.version) (codes ", and this log has so many before it") in
    rw c.in-LogLimit.is (has_written_of_eq _ _ _ _ _ (sym text) (c.write-in-LogLimit.ensures.writes plain ok))

pub returns-in-AddressBelow-clause-writes : goal.returns-in-AddressBelow-clause-writes
returns-in-AddressBelow-clause-writes g c plain ok =
    let text = three (codes "it is below ") (hexadecimal c.in-AddressBelow.limit)
    (codes ", since the numbers of blocks are below 2^32") in
    rw c.in-AddressBelow.is (has_written_of_eq _ _ _ _ _ (sym text) (c.write-in-AddressBelow.ensures.writes plain ok))

pub returns-in-Events-clause-writes : goal.returns-in-Events-clause-writes
returns-in-Events-clause-writes g c plain ok =
    let text = three (codes "the trace has ") (decimal c.in-Events.count) (codes " event records before it") in
    rw c.in-Events.is (has_written_of_eq _ _ _ _ _ (sym text) (c.write-in-Events.ensures.writes plain ok))
