use Rattle.std.proofs.Common.{Some, ap, ◌∙◌}
use Rattle.lf_rules.specs.Run.{first_failing}
use Rattle.lf_rules.specs.Table.{OfBank}
use Rattle.bank_events.proofs.Told.{second_merge_told}
use Rattle.bank_events.proofs.registers.second_merge_rule.Goals as goal

pub returns-in-Some-clause-held : goal.returns-in-Some-clause-held
returns-in-Some-clause-held g c = ap Some c.rule.ensures ∙ c.in-Some.ensures

pub returns-in-Some-clause-told : goal.returns-in-Some-clause-told
returns-in-Some-clause-told g c = λ fetched alike.
    ap Some c.rule.ensures ∙ c.in-Some.ensures
    ∙ ap (first_failing OfBank) (second_merge_told c.args.shape.now
    (g.O.Organisation.seen c.args.regs2.now) c.requires.file fetched alike c.args.second c.args.register
    c.args.target.now.destination c.args.target.now.position)

pub returns-in-None-clause-told : goal.returns-in-None-clause-told
returns-in-None-clause-told g c = λ fetched alike.
    c.in-None.ensures
    ∙ ap (first_failing OfBank) (second_merge_told c.args.shape.now
    (g.O.Organisation.seen c.args.regs2.now) c.requires.file fetched alike c.args.second c.args.register
    c.args.target.now.destination c.args.target.now.position)
