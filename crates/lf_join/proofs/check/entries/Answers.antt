use Rattle.std.proofs.Common.{◌∙◌, ap, sym}
use Rattle.lf_join.proofs.Entries.{log_at-lists, log_at-past}
use Rattle.lf_join.proofs.check.entries.Goals as goal

pub returns-in-Some : goal.returns-in-Some
returns-in-Some c =
    let h = c.in-Some.ensures.lookup in
    c.deref.ensures.value ∙ ap (λ skeleton. skeleton.items) h.1
    ∙ sym (log_at-lists c.args.skeletons.now c.args.log c.in-Some.skeleton.now h.3.0)

pub returns-in-None : goal.returns-in-None
returns-in-None c = let h = c.in-None.ensures.lookup in sym (log_at-past c.args.skeletons.now c.args.log h.3)
