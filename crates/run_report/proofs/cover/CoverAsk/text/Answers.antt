use Rattle.std.proofs.Common.{◌≡◌, refl}
use Rattle.run_report.proofs.CoverLemmas.{countable, own_bytes, legal_in, told}
use Rattle.run_report.proofs.cover.CoverAsk.text.Goals as goal

pub coverage_of-requires-clause-countable : goal.coverage_of-requires-clause-countable
coverage_of-requires-clause-countable c =
    let shape = c.args.shape.now in
    let bytes = c.args.bytes.now in
    let conclusion = c.args.conclusion.now in
    let own = conclusion.fed.bytes in
    let here = own_bytes shape own bytes conclusion.outcome _ c.in-Yes.is (c.requires.kept refl) in
    countable shape bytes _
    (legal_in shape own bytes conclusion.outcome _ c.in-Yes.is here c.requires.concluded.outcome)

pub returns-in_ok-coverage-in-Yes : goal.returns-in_ok-coverage-in-Yes
returns-in_ok-coverage-in-Yes c =
    let shape = c.args.shape.now in
    let bytes = c.args.bytes.now in
    let conclusion = c.args.conclusion.now in
    let own = conclusion.fed.bytes in
    let here = own_bytes shape own bytes conclusion.outcome _ c.in-Yes.is (c.requires.kept refl) in
    told shape own bytes conclusion.outcome _ c.in-Yes.is c.args.self.now.form _ c.text_of.result here
    c.in_ok-coverage-in-Yes.ensures c.text_of.ensures
