use Rattle.std.proofs.Common.{ℕ, Bool, ◌+◌, ◌*◌, ◌≤◌, ◌==◌, ◌&&◌, sym, ap, ◌∙◌, subst, eq-eqb}
use Rattle.std.specs.List.{list_all, list_any}
use Rattle.std.proofs.lemmas.Bool.{not-true}
use Rattle.lf_mshr.specs.Places.{held_of, is_taken}
use Rattle.lf_mshr.specs.RegisterFile.{held_item}
use Rattle.lf_mshr.proofs.Fields.{field-taken}
use Rattle.lf_mshr.proofs.Placed.{taken-held, held-push, own-push}
use Rattle.lf_mshr.proofs.implicit.ImplicitFile.append.Goals as goal

pub push-requires-clause-free : goal.push-requires-clause-free
push-requires-clause-free g c =
    let file = c.args.self.now in
    let order = file.registers.places.order in
    let at = g.T.Target.position c.args.target in
    let own : ℕ → ℕ → Bool = λ register k. list_any (λ h. h.register == register && g.T.Target.position h.target == k)
    (held_of order) in
    ap (λ n. is_taken order (c.args.register * 8 + n)) (c.from.ensures ∙ c.position.ensures.field)
    ∙ taken-held (λ h. h.register * 8 + g.T.Target.position h.target) order file.own (c.args.register * 8 + at)
    ∙ field-taken g.T.Target.position g.met.T.Target.below_eight c.args.register at
    (g.met.T.Target.below_eight c.args.target) (held_of order)
    ∙ not-true (own c.args.register at) c.requires.field

pub invariant_of-self : goal.invariant_of-self
invariant_of-self g c =
    let file = c.args.self.now in
    let order = file.registers.places.order in
    let item = held_item c.args.register c.args.block c.args.target in
    record {
      all = c.push.ensures.places ∙ file.all ∙ ap (λ n. n * 8) (sym c.push.ensures.registers);
      own = ap (list_all (λ q. q.0 == q.1.register * 8 + g.T.Target.position q.1.target)) c.push.ensures.order
          ∙ own-push (λ q. q.0 == q.1.register * 8 + g.T.Target.position q.1.target) order
          (c.args.register * 8 + c.from.result, item) file.own
          (eq-eqb (c.args.register * 8 + c.from.result) (c.args.register * 8 + g.T.Target.position c.args.target)
          (ap (λ n. c.args.register * 8 + n) (c.from.ensures ∙ c.position.ensures.field)));
      limit = subst (λ n. n ≤ 64) (sym c.push.ensures.registers) file.limit;
    }

pub returns-clause-items : goal.returns-clause-items
returns-clause-items g c =
    let item = held_item c.args.register c.args.block c.args.target in
    ap held_of c.push.ensures.order ∙ held-push c.args.self.now.registers.places.order
    (c.args.register * 8 + c.from.result, item)
