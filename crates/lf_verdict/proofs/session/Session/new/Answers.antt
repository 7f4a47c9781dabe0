use Rattle.std.proofs.Common.{sym, subst}
use Rattle.lf_verdict.specs.Session.{IsConfigRefusal}
use Rattle.lf_verdict.proofs.Refusals.{config_refused, if_err_from}
use Rattle.lf_verdict.proofs.session.Session.new.Goals as goal

pub returns-in_err-shape-clause-refused : goal.returns-in_err-shape-clause-refused
returns-in_err-shape-clause-refused c =
    let text = c.args.config.now in
    if_err_from c.from_residual.result
    (λ refusal is. subst (IsConfigRefusal text) (sym is)
    (config_refused text c.in_err-shape.field-0.0 c.in_err-shape.ensures.gives))
    c.from_residual.ensures.1
