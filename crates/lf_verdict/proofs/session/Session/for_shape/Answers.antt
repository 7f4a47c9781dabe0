use Rattle.std.proofs.Common.{rules}
use Rattle.lf_verdict.proofs.session.Session.for_shape.Goals as goal

pub returns-clause-shape : goal.returns-clause-shape
returns-clause-shape c = search rules
