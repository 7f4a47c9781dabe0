use Rattle.std.proofs.Common.{◌+◌, ◌<◌, true, List, [], ◌∷◌, ◌++◌, length, take, get_or, refl, sym, ap, ◌∙◌, arith}
use Rattle.std.proofs.lemmas.Grind.{put_two}
use Rattle.std.specs.Prelude.{codes}
use Rattle.std.specs.Fmt.{decimal}
use Rattle.lf_stats.specs.declared.counts.BankStats.{BankStats}
use Rattle.lf_stats.specs.Text.{bank_text, bank_line, lines_from}
use Rattle.lf_stats.proofs.Lines.{lines_next, grouped}
use Rattle.lf_stats.proofs.text.BankLinesDisplay.fmt.Goals as goal

pub loop-bank-preserved : goal.loop-bank-preserved
loop-bank-preserved g c plain =
    let bank = c.loop-bank.bank-counter in
    let banks : List BankStats = c.args.self.now.0.now in
    let none : BankStats = record { hits = 0; primary = 0; merges = 0; stalls = 0; peak = 0 } in
    let counts = get_or banks bank none in
    let lines = lines_from bank_line 0 (take bank banks) in
    let line = codes "bank=" ++ (decimal bank ++ (codes " " ++ (bank_text counts ++ 10 ∷ []))) in
    let before = c.loop-bank.invariant plain in
    let inside : bank < length banks = omega (arith, c.loop-bank-test.true) in
    put_two g.W.Write.write_str_gives c.args.f.now c.loop-bank.f c.writeln.new.self lines line
    (lines_from bank_line 0 (take (bank + 1) banks))
    before (c.in_ok-writeln.ensures.writes before.plain (refl {a = true}))
    (ap (λ text. lines ++ text) (sym (grouped (codes "bank=") (decimal bank) (codes " ") (bank_text counts) (10 ∷ [])))
    ∙ sym (lines_next bank_line banks bank none inside))
