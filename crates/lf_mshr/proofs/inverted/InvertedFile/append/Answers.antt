use Rattle.std.proofs.Common.{ap, ◌∙◌, ◌==◌, refl, eq-eqb}
use Rattle.std.specs.List.{list_any, list_all}
use Rattle.std.proofs.lemmas.Bool.{not-true}
use Rattle.lf_mshr.specs.RegisterFile.{held_item}
use Rattle.lf_mshr.specs.Places.{held_of}
use Rattle.lf_mshr.proofs.Placed.{taken-held, held-push, own-push}
use Rattle.lf_mshr.proofs.inverted.InvertedFile.append.Goals as goal

pub push-requires-clause-free : goal.push-requires-clause-free
push-requires-clause-free g c =
    let file = c.args.self.now in
    taken-held (λ h. h.register) file.places.order file.own c.args.register
    ∙ not-true (list_any (λ h. h.register == c.args.register) (held_of file.places.order)) c.requires.free

pub invariant_of-self : goal.invariant_of-self
invariant_of-self g c =
    let file = c.args.self.now in
    let item = held_item c.args.register c.args.block c.args.target in
    record {
      all = c.push.ensures.places ∙ file.all;
      own = ap (list_all (λ q. q.0 == q.1.register)) c.push.ensures.order
          ∙ own-push (λ q. q.0 == q.1.register) file.places.order (c.args.register, item) file.own
          (eq-eqb c.args.register c.args.register refl);
    }

pub returns-clause-items : goal.returns-clause-items
returns-clause-items g c =
    let item = held_item c.args.register c.args.block c.args.target in
    ap held_of c.push.ensures.order ∙ held-push c.args.self.now.places.order (c.args.register, item)
