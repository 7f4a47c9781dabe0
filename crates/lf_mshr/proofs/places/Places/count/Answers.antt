use Rattle.std.proofs.Common.{sym, ◌∙◌}
use Rattle.lf_mshr.proofs.Chain.{count-is}
use Rattle.lf_mshr.proofs.places.Places.count.Goals as goal

pub returns : goal.returns
returns g c =
    let p = c.self.inside in
    rw (← c.self.view_is)
    (c.from.ensures ∙ sym (count-is p.items.items p.next.items p.used.items p.end p.last p.len c.self.invariant))
