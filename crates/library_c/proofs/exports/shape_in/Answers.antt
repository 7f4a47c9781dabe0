use Rattle.std.proofs.Common.{sym, subst}
use Rattle.lf_verdict.specs.Session.{IsConfigRefusal}
use Rattle.lf_verdict.proofs.Refusals.{config_refused, if_err_from}
use Rattle.library_c.proofs.exports.shape_in.Goals as goal

pub returns-in_err-read-clause-refused : goal.returns-in_err-read-clause-refused
returns-in_err-read-clause-refused c =
    let text = c.args.text.now in
    if_err_from c.from_residual.result
    (λ refusal is. subst (IsConfigRefusal text) (sym is)
    (config_refused text c.in_err-read.field-0.0 c.in_err-read.ensures.gives))
    c.from_residual.ensures.1
