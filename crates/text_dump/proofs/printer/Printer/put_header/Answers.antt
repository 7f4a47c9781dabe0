use Rattle.std.proofs.Common.{◌≡◌, ◌++◌, refl, sym, rules, string_bytes}
use Rattle.text_print.specs.Text.{header_text}
use Rattle.text_dump.specs.Lines.{placed_line}
use Rattle.text_dump.proofs.Placing.{put_first}
use Rattle.text_dump.proofs.printer.Printer.put_header.Goals as goal

pub returns-in_ok-put_line-clause-puts : goal.returns-in_ok-put_line-clause-puts
returns-in_ok-put_line-clause-puts c =
    let none : c.args.self.now.offset ≡ 0 = search rules in
    let put : string_bytes c.put_line.new.text ≡ string_bytes c.args.self.now.text
    ++ placed_line (header_text c.in-Some.header) 0 = search rules in
    put_first c.args.self.now _ c.in-Some.header none (sym c.in-Some.ensures.now) put refl
