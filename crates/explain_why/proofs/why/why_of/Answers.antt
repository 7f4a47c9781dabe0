use Rattle.explain_why.proofs.Records.{countable}
use Rattle.explain_why.proofs.why.why_of.Goals as goal

pub why_of_legal-requires-clause-countable : goal.why_of_legal-requires-clause-countable
why_of_legal-requires-clause-countable c =
    countable c.args.shape.now c.args.bytes.now c.args.judged.now.outcome.now c.in-Yes.events c.in-Yes.is
    c.requires.judged.outcome
