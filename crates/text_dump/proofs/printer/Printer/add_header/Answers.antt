use Rattle.std.proofs.Common.{◌≡◌, rules}
use Rattle.text_dump.proofs.Placing.{header_end}
use Rattle.text_dump.proofs.printer.Printer.add_header.Goals as goal

pub returns-in_ok-add_header-clause-offset : goal.returns-in_ok-add_header-clause-offset
returns-in_ok-add_header-clause-offset c =
    let none : c.args.self.now.offset ≡ 0 = search rules in
    header_end c.args.self.now.offset c.args.header.now none
