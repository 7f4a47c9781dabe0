use Rattle.std.proofs.Common.{sym, ap, ◌∙◌, arith}
use Rattle.lf_logs.specs.Reordering.{Reordering, early_at}
use Rattle.lf_logs.proofs.Reordered.{HasOrdered-double, HasOrdered-waits}
use Rattle.lf_logs.proofs.reorder.Reorder.put.Goals as goal

pub returns-then-has_come-clause-put : goal.returns-then-has_come-clause-put
returns-then-has_come-clause-put c put gave has =
    HasOrdered-double c.args.self.now put gave has c.args.item c.note_double.new.self (omega arith)
    (sym c.has_come.ensures ∙ c.if-has_come.true) c.note_double.ensures

pub returns-clause-put : goal.returns-clause-put
returns-clause-put c put gave has =
    HasOrdered-waits c.args.self.now put gave has c.args.item _ (omega arith)
    (sym c.has_come.ensures ∙ c.if-has_come.false)
    (ap (λ (o : Reordering). o.next) c.self.view_is) (ap (λ (o : Reordering). o.double) c.self.view_is)
    c.in_ok-put.ensures.own
    (λ k other. c.in_ok-put.ensures.others k other ∙ ap (λ (o : Reordering). early_at o k) c.self.view_is)
