use Rattle.std.proofs.Common.{ap, ◌∙◌, rules}
use Rattle.std.proofs.lemmas.Fn.{filter_same}
use Rattle.model_plain.specs.Plain.{busy_of}
use Rattle.model_plain.proofs.BusyTags.{is_other, busy_dropped}
use Rattle.model_plain.proofs.busy.drop_busy.Goals as goal

pub returns : goal.returns
returns c =
    ap busy_of (filter_same _ (is_other c.args.port c.args.tag) _ (λ x b f' k. search rules) _ _
    c.retain.ensures.filtered) ∙ busy_dropped c.args.port c.args.tag c.args.busy.now.items
