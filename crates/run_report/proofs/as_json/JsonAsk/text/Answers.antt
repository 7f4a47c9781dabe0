use Rattle.std.proofs.Common.{◌≡◌, Option, refl, sym, subst}
use Rattle.lf_logs.specs.declared.incomplete.Incomplete.{Incomplete}
use Rattle.explain_why.specs.Why.{IsJudgement}
use Rattle.run_report.proofs.ExplainLemmas.{judgement}
use Rattle.run_report.proofs.as_json.JsonAsk.text.Goals as goal

pub why_of-requires-clause-judged : goal.why_of-requires-clause-judged
why_of-requires-clause-judged c =
    let shape = c.args.shape.now in
    let bytes = c.args.bytes.now in
    let conclusion = c.args.conclusion.now in
    subst (λ (found : Option Incomplete). IsJudgement shape bytes conclusion.outcome conclusion.broken found)
    (sym c.told_if.ensures)
    (judgement c.args.self.now.asked.complete shape bytes conclusion c.requires.concluded (c.requires.kept refl))
