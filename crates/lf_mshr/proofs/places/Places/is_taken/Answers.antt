use Rattle.std.proofs.Common.{ℕ, List, ◌∙◌, ap}
use Rattle.lf_mshr.specs.Places.{is_marked}
use Rattle.lf_mshr.proofs.Chain.{taken-as}
use Rattle.lf_mshr.proofs.places.Places.is_taken.Goals as goal

pub returns : goal.returns
returns g c =
    let p = c.self.inside in
    rw (← c.self.view_is)
    (c.is_marked.ensures ∙ ap (λ (ws : List ℕ). is_marked ws c.args.place) c.deref.ensures.value
    ∙ taken-as p.items.items p.next.items p.used.items p.end p.last p.len c.self.invariant c.args.place)
