use Rattle.std.proofs.Common.{subst, sym, ◌∙◌}
use Rattle.lf_logs.specs.Tags.{PortView, PortStandsAfter}
use Rattle.lf_logs.proofs.BusyWaits.{unanswered_if}
use Rattle.lf_logs.proofs.port_step.PortStep.unanswered.Goals as goal

pub returns : goal.returns
returns c shape rs stands =
    c.busy_count.ensures.count
    ∙ unanswered_if (record {
      shape = c.self.inside.shape;
      port = c.self.inside.port;
      owed_by =
          c.self.inside.tags.owed_by;
    }) shape rs
    (subst (λ (s : PortView). PortStandsAfter s shape rs) (sym c.self.view_is) stands) c.busy_count.ensures.tags
