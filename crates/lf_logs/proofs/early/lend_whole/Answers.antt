use Rattle.std.proofs.Common.{Some, ap, sym, ◌∙◌, option_map, option_copied}
use Rattle.std.specs.Global.{Box}
use Rattle.lf_rules.specs.declared.event.Record.{Record}
use Rattle.lf_logs.proofs.EarlyLookups.{at_whole}
use Rattle.lf_logs.proofs.early.lend_whole.Goals as goal

pub returns-in-Some : goal.returns-in-Some
returns-in-Some c = ap Some (c.of.ensures ∙ c.deref.ensures)
    ∙ ap (option_map (λ (b : Box Record). b.value)) (ap option_copied (sym c.in-Some.is) ∙ c.get.ensures.value)
    ∙ sym (at_whole c.args.whole.now.entries c.args.number)

pub returns-in-None : goal.returns-in-None
returns-in-None c =
    ap (option_map (λ (b : Box Record). b.value)) (ap option_copied (sym c.in-None.is) ∙ c.get.ensures.value)
    ∙ sym (at_whole c.args.whole.now.entries c.args.number)
