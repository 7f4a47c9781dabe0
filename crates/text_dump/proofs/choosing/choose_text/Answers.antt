use Rattle.std.proofs.Common.{◌≡◌, ◌<◌, ◌∙◌, Err, refl, rules, string_bytes}
use Rattle.run_stream.specs.Counted.{failures_of}
use Rattle.text_dump.specs.Lines.{closing_of}
use Rattle.text_dump.specs.declared.fault.DumpFault.TheVariants.{Memory, Write}
use Rattle.text_dump.proofs.Ending.{dumped_without_memory, dumped_without_closing, dumped_whole, not_some}
use Rattle.text_dump.proofs.Stopping.{whole_cut, whole_told, chosen_whole}
use Rattle.text_dump.proofs.choosing.choose_text.Goals as goal

pub returns-in_err-tell-clause-dumped : goal.returns-in_err-tell-clause-dumped
returns-in_err-tell-clause-dumped g c =
    let t = c.in_ok-choose_lines.ensures.all in
    let is : c.from_residual-in_err-tell.result ≡ Err Write = search rules in
    let failed : 0 < failures_of c.tell.new.writer = search (rules, c.in_err-tell.ensures.failed) in
    let prefix = c.in_err-tell.ensures.prefix in
    rw is (whole_cut _ _ _ _ _ _ c.args.turns _ _ t c.in_ok-choose_lines.ensures.choice prefix.0 failed prefix.1)

pub returns-in_err-fault-clause-dumped : goal.returns-in_err-fault-clause-dumped
returns-in_err-fault-clause-dumped g c =
    let t = c.in_ok-choose_lines.ensures.all in
    let told = whole_told _ _ _ _ _ _ c.args.turns _ _ t c.in_ok-choose_lines.ensures.choice
    c.in_ok-tell.ensures.whole in
    let none : failures_of c.tell.new.writer ≡ 0 = search (rules, c.in_ok-tell.ensures.failed) in
    let is : c.from_residual-in_err-fault.result ≡ Err Memory = search rules in
    rw is (dumped_without_memory _ _ _ _ _ c.args.turns _ t.reads (not_some _ t.read) t.bytes t.all told
    (not_some _ none) refl)

pub returns-in_err-put-clause-dumped : goal.returns-in_err-put-clause-dumped
returns-in_err-put-clause-dumped g c =
    let t = c.in_ok-choose_lines.ensures.all in
    let told = whole_told _ _ _ _ _ _ c.args.turns _ _ t c.in_ok-choose_lines.ensures.choice
    c.in_ok-tell.ensures.whole in
    let is : c.from_residual-in_err-put.result ≡ Err Write = search rules in
    let text : c.as_bytes.result.now ≡ string_bytes c.close.new.self.text = search rules in
    let due : c.as_bytes.result.now ≡ closing_of t.bytes = text ∙ c.in_ok-fault.ensures.text t.bytes t.shown in
    let failed : 0 < failures_of c.put.new.writer = search (rules, c.in_err-put.ensures.failed) in
    let prefix = rw due at c.in_err-put.ensures.prefix in
    rw is (dumped_without_closing _ _ _ _ _ c.args.turns _ t.reads (not_some _ t.read) t.bytes t.all told _ prefix.0
    failed prefix.1)

pub returns-clause-dumped : goal.returns-clause-dumped
returns-clause-dumped g c =
    let t = c.in_ok-choose_lines.ensures.all in
    let told = whole_told _ _ _ _ _ _ c.args.turns _ _ t c.in_ok-choose_lines.ensures.choice
    c.in_ok-tell.ensures.whole in
    let text : c.as_bytes.result.now ≡ string_bytes c.close.new.self.text = search rules in
    let due : c.as_bytes.result.now ≡ closing_of t.bytes = text ∙ c.in_ok-fault.ensures.text t.bytes t.shown in
    let none : failures_of c.put.new.writer ≡ 0 = search (rules, c.in_ok-put.ensures.failed) in
    dumped_whole _ _ _ _ _ c.args.turns _ t.reads (not_some _ t.read) t.bytes t.all told _ _ t.shown.read.are_bytes
    t.once (not_some _ none)
    (c.in_ok-fault.ensures.fault t.bytes t.shown) (rw due at c.in_ok-put.ensures.whole)

pub returns-in_err-fault-clause-memory : goal.returns-in_err-fault-clause-memory
returns-in_err-fault-clause-memory g c _ =
    let t = c.in_ok-choose_lines.ensures.all in
    let told = whole_told _ _ _ _ _ _ c.args.turns _ _ t c.in_ok-choose_lines.ensures.choice
    c.in_ok-tell.ensures.whole in
    let choice = c.args.chosen.now.choice in
    chosen_whole choice.last choice _ _ _ _ t.bytes t.all told
