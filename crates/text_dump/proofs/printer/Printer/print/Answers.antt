use Rattle.std.proofs.Common.{rules}
use Rattle.text_dump.proofs.Printed.{printed_all}
use Rattle.text_dump.proofs.printer.Printer.print.Goals as goal

pub returns : goal.returns
returns c =
    let head = c.in_ok-put_header.ensures in
    let first = c.in_ok-self.ensures in
    let last = c.in_ok-self-2.ensures in
    printed_all c.args.self.now _ _ _ _ _ _ _ c.put_header.ensures.reader first.taken last.taken head.puts.text
    head.puts.offset
    first.lines first.end last.lines last.end (search rules)
