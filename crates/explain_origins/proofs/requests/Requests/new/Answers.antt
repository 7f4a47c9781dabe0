use mathlib.Core.Path.{fun_ext}
use Rattle.explain_origins.proofs.requests.Requests.new.Goals as goal

pub returns : goal.returns
returns c = fun_ext c.in_ok-queues.ensures.empty
