use Rattle.std.proofs.Common.{ap, ◌∙◌}
use Rattle.model_plain.specs.Plain.{busy_of}
use Rattle.model_plain.proofs.BusyTags.{busy_pushed}
use Rattle.model_plain.proofs.busy.add_busy.Goals as goal

pub returns-in-Ok : goal.returns-in-Ok
returns-in-Ok c = ap busy_of c.in-Ok.ensures.items ∙ busy_pushed c.args.busy.now.items c.args.item c.requires
