use Rattle.std.proofs.Common.{subst, sym}
use Rattle.lf_logs.specs.Tags.{PortView, PortStandsAfter}
use Rattle.lf_logs.proofs.BusyWaits.{lowest_waits}
use Rattle.lf_logs.proofs.port_step.PortStep.lowest_waiting.Goals as goal

pub returns : goal.returns
returns c shape rs stands =
    lowest_waits (record {
      shape = c.self.inside.shape;
      port = c.self.inside.port;
      owed_by =
          c.self.inside.tags.owed_by;
    }) shape rs
    (subst (λ (s : PortView). PortStandsAfter s shape rs) (sym c.self.view_is) stands) c.lowest_busy.result
    c.lowest_busy.ensures
