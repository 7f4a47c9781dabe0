use Rattle.std.proofs.Common.{◌≡◌, true, subst, sym, ◌∙◌, arith}
use Rattle.lf_join.specs.Heads.{is_due}
use Rattle.lf_join.specs.Progress.{Reached, HasReached}
use Rattle.lf_join.proofs.Due.{due_carries}
use Rattle.lf_join.proofs.Reached.{entry_goes}
use Rattle.lf_join.proofs.progress.Progress.pass.Goals as goal

pub returns-then-goes-clause-gone : goal.returns-then-goes-clause-gone
returns-then-goes-clause-gone c truth skeletons left within none h =
    let p = c.self.inside in
    let reached : Reached = record { places = p.places; next = p.next } in
    let log = c.args.log in
    let entry = c.args.entry in
    rw (c.from.ensures, c.from-at.ensures, c.from-then-goes.ensures)
    (entry_goes skeletons left reached log entry within none
    (subst (λ (r : Reached). HasReached skeletons r left) (sym c.self.view_is) h)
    (let len = c.self.invariant.0 in omega (arith, len, c.requires.log))
    (let len = c.self.invariant.1 in let fits = c.ranges in omega (arith, len))
    (due_carries p.next entry
    (subst (λ (r : Reached). is_due r.next entry ≡ true) (sym c.self.view_is)
    (sym c.is_due-goes.ensures ∙ c.if-goes.true))))
