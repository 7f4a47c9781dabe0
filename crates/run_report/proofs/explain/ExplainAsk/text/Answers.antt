use Rattle.std.proofs.Common.{◌≡◌, Option, Some, refl, sym, subst}
use Rattle.lf_logs.specs.declared.incomplete.Incomplete.{Incomplete}
use Rattle.explain_lines.specs.Marks.{told_by}
use Rattle.explain_why.specs.declared.why.Why.{Why}
use Rattle.explain_why.specs.Why.{IsJudgement, HasWhy}
use Rattle.run_report.proofs.ExplainLemmas.{judgement, told_behind}
use Rattle.run_report.proofs.explain.ExplainAsk.text.Goals as goal

pub why_of-requires-clause-judged : goal.why_of-requires-clause-judged
why_of-requires-clause-judged c =
    let shape = c.args.shape.now in
    let bytes = c.args.bytes.now in
    let conclusion = c.args.conclusion.now in
    subst (λ (found : Option Incomplete). IsJudgement shape bytes conclusion.outcome conclusion.broken found)
    (sym c.told_if.ensures)
    (judgement c.args.self.now.asked.complete shape bytes conclusion c.requires.concluded (c.requires.kept refl))

pub returns-in-Some : goal.returns-in-Some
returns-in-Some c =
    let shape = c.args.shape.now in
    let bytes = c.args.bytes.now in
    let conclusion = c.args.conclusion.now in
    let asked = c.args.self.now.asked in
    let has = subst (λ (why : Option Why). HasWhy shape bytes (told_by asked.times) asked.most asked.first
    conclusion.outcome conclusion.broken c.told_if.result why) c.in-Some.is c.in_ok-why.ensures in
    told_behind c.args.self.now.config.now shape (told_by asked.times) asked.most asked.complete asked.first conclusion bytes c.told_if.result
    c.in-Some.why _ c.behind_line.result c.told_if.ensures has.0 has.1 (c.requires.kept refl)
    c.headline_of-line.ensures c.behind_line.ensures
