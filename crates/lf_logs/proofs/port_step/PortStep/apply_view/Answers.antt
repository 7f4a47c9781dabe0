use Rattle.std.proofs.Common.{subst, sym, refl}
use Rattle.lf_logs.specs.Tags.{PortView, PortStandsAfter}
use Rattle.lf_logs.proofs.PortSteps.{PortStandsAfter-more, IsPortFaultAfter-here}
use Rattle.lf_logs.proofs.port_step.PortStep.apply_view.Goals as goal

pub returns-in-Some-clause-broken : goal.returns-in-Some-clause-broken
returns-in-Some-clause-broken c shape rs stands =
    IsPortFaultAfter-here (record {
      shape = c.self.inside.shape;
      port = c.self.inside.port;
      owed_by =
          c.self.inside.tags.owed_by;
    }) c.args.self.now shape rs
    (subst (λ (s : PortView). PortStandsAfter s shape rs) (sym c.self.view_is) stands) c.args.item.now c.in-Some.rule
    c.in-Some.ensures

pub returns-clause-stands : goal.returns-clause-stands
returns-clause-stands c shape rs stands =
    PortStandsAfter-more (record {
      shape = c.self.inside.shape;
      port = c.self.inside.port;
      owed_by =
          c.self.inside.tags.owed_by;
    }) _ shape rs
    (subst (λ (s : PortView). PortStandsAfter s shape rs) (sym c.self.view_is) stands) c.args.item.now
    c.in_default.ensures c.update.ensures refl
