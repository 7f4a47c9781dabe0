use Rattle.std.proofs.Common.{◌+◌, ◌<◌, true, List, length, take, get_or, refl, sym, arith}
use Rattle.std.proofs.lemmas.Grind.{put_two}
use Rattle.count_usage.specs.declared.usage.BankUse.{BankUse}
use Rattle.count_usage.specs.Usage.{unused}
use Rattle.lf_stats.specs.Text.{lines_from}
use Rattle.count_usage.specs.Text.{bank_lines}
use Rattle.lf_stats.proofs.Lines.{lines_next}
use Rattle.count_usage.proofs.text.BankTextsDisplay.fmt.Goals as goal

pub loop-bank-preserved : goal.loop-bank-preserved
loop-bank-preserved g c plain =
    let bank = c.loop-bank.bank in
    let banks : List BankUse = c.args.self.now.banks.now in
    let line = bank_lines c.args.self.now.shape.now in
    let none : BankUse = record { level1 = unused; level2 = unused } in
    let used = get_or banks bank none in
    let lines = lines_from line 0 (take bank banks) in
    let before = c.loop-bank.invariant plain in
    let inside : bank < length banks = omega (arith, c.loop-bank-test.true) in
    put_two g.W.Write.write_str_gives c.args.f.now c.loop-bank.f c.write.new.self lines (line bank used)
    (lines_from line 0 (take (bank + 1) banks))
    before (c.in_ok-write.ensures.writes before.plain (refl {a = true}))
    (sym (lines_next line banks bank none inside))
