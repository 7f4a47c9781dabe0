use Rattle.std.proofs.Common.{refl, sym, rules}
use Rattle.lf_rules.specs.Outcomes.{first_local}
use Rattle.lf_logs.proofs.port_step.PortStep.new.Goals as goal

pub returns-clause-stands : goal.returns-clause-stands
returns-clause-stands c = record {
  of_shape = refl;
  is_run = λ memory. tt;
  state =
      λ memory. sym (c.new.ensures (first_local memory));
}

pub returns-clause-port : goal.returns-clause-port
returns-clause-port c = search rules
