use Rattle.std.proofs.Common.{◌≡◌, []}
use Rattle.lf_rules.specs.Lists.{lists_of}
use Rattle.lf_logs.specs.Lists.{logs_of}
use Rattle.lf_logs.proofs.logs.empty_logs.Given as goal

abbrev pub invariant-loop : goal.invariant-loop
invariant-loop l = lists_of l.logs ≡ logs_of l.counter []
