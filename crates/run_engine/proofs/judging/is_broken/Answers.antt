use Rattle.std.proofs.Common.{◌≡◌, ◌∙◌, true, sym, subst, rules}
use Rattle.lf_verdict.specs.Session.{CanTell}
use Rattle.run_engine.proofs.Broken.{tells_broken}
use Rattle.run_engine.proofs.judging.is_broken.Goals as goal

pub returns-clause-broken : goal.returns-clause-broken
returns-clause-broken g c going watches =
    let told = c.broken.ensures in
    let early : c.args.early ≡ true = search rules in
    let watched = watches early in
    let tells = tells_broken c.args.session.now.shape c.args.session.now.fed c.broken.result
    (told.earliest watched)
    (told.none (subst (CanTell c.args.session.now.asked) (sym (told.watched watched ∙ going)) tt)) in
    rw c.is_some.ensures (λ some. (early, tells.0 some), λ both. tells.1 both.1)
