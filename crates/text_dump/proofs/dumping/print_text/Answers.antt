use Rattle.std.proofs.Common.{◌≡◌, ◌<◌, ◌∙◌, Err, refl, rules, string_bytes}
use Rattle.run_stream.specs.Counted.{failures_of}
use Rattle.text_dump.specs.Lines.{closing_of}
use Rattle.text_dump.specs.declared.fault.DumpFault.TheVariants.{Memory, Write}
use Rattle.text_dump.proofs.Ending.{dumped_without_memory, dumped_without_closing, dumped_whole, not_some}
use Rattle.text_dump.proofs.Telling.{all_told}
use Rattle.text_dump.proofs.dumping.print_text.Goals as goal

pub returns-in_err-fault-clause-dumped : goal.returns-in_err-fault-clause-dumped
returns-in_err-fault-clause-dumped g c =
    let got = c.in_ok-print_lines.ensures in
    let is : c.from_residual-in_err-fault.result ≡ Err Memory = search rules in
    rw is (dumped_without_memory _ _ _ _ _ c.args.turns _ got.reads (λ failed. let bad = got.read.1 failed in cc)
    got.all.0 got.all.2 got.all.3 (λ failed. let bad = got.write.1 failed in cc) refl)

pub returns-in_err-put-clause-dumped : goal.returns-in_err-put-clause-dumped
returns-in_err-put-clause-dumped g c =
    let got = c.in_ok-print_lines.ensures in
    let told = got.all in
    let is : c.from_residual-in_err-put.result ≡ Err Write = search rules in
    let text : c.as_bytes.result.now ≡ string_bytes c.close.new.self.text = search rules in
    let due : c.as_bytes.result.now ≡ closing_of told.0 = text ∙ c.in_ok-fault.ensures.text told.0 told.1 in
    let failed : 0 < failures_of c.put.new.writer = search (rules, c.in_err-put.ensures.failed) in
    let prefix = rw due at c.in_err-put.ensures.prefix in
    rw is (dumped_without_closing _ _ _ _ _ c.args.turns _ got.reads (λ failed. let bad = got.read.1 failed in cc)
    told.0 told.2 told.3 _ prefix.0 failed prefix.1)

pub returns-clause-dumped : goal.returns-clause-dumped
returns-clause-dumped g c =
    let got = c.in_ok-print_lines.ensures in
    let told = got.all in
    let text : c.as_bytes.result.now ≡ string_bytes c.close.new.self.text = search rules in
    let due : c.as_bytes.result.now ≡ closing_of told.0 = text ∙ c.in_ok-fault.ensures.text told.0 told.1 in
    let none : failures_of c.put.new.writer ≡ 0 = search (rules, c.in_ok-put.ensures.failed) in
    dumped_whole _ _ _ _ _ c.args.turns _ got.reads (λ failed. let bad = got.read.1 failed in cc) told.0 told.2 told.3
    _ _ told.1.read.are_bytes got.once (not_some _ none)
    (c.in_ok-fault.ensures.fault told.0 told.1) (rw due at c.in_ok-put.ensures.whole)

pub returns-in_err-fault-clause-memory : goal.returns-in_err-fault-clause-memory
returns-in_err-fault-clause-memory g c _ =
    let told = c.in_ok-print_lines.ensures.all in all_told _ _ _ _ told.0 told.2 told.3
