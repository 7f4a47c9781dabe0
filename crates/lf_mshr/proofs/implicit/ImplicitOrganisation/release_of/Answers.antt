use Rattle.std.proofs.Common.{◌==◌, ◌+◌, ◌*◌, ◌≤◌, ◌∙◌, sym, ap, subst}
use Rattle.std.specs.List.{list_all}
use Rattle.lf_mshr.specs.RegisterFile.{implicit_file}
use Rattle.lf_mshr.specs.Places.{held_of}
use Rattle.lf_mshr.proofs.Indexed.{holding-below}
use Rattle.lf_mshr.proofs.Placed.{held-left, own-left}
use Rattle.lf_mshr.proofs.implicit.ImplicitOrganisation.release_of.Goals as goal

pub invariant_of-file : goal.invariant_of-file
invariant_of-file g c =
    let file = c.args.file.now in
    record {
      all = c.release_of.ensures.places ∙ file.all ∙ ap (λ n. n * 8) (sym c.release_of.ensures.registers);
      own = ap (list_all (λ q. q.0 == q.1.register * 8 + g.T.Target.position q.1.target)) c.release_of.ensures.order
          ∙ own-left (λ q. q.0 == q.1.register * 8 + g.T.Target.position q.1.target) file.registers.places.order
          c.args.block file.own;
      limit = subst (λ n. n ≤ 64) (sym c.release_of.ensures.registers) file.limit;
    }

pub returns-clause-others : goal.returns-clause-others
returns-clause-others g c =
    let file = c.args.file.now in
    ap (λ n. implicit_file n file.destinations (held_of c.release_of.new.self.places.order))
    c.release_of.ensures.registers
    ∙ ap (implicit_file file.registers.registers file.destinations)
    (ap held_of c.release_of.ensures.order ∙ held-left file.registers.places.order c.args.block)

pub release_of-requires : goal.release_of-requires
release_of-requires g c =
    let registers = c.args.file.now.registers in
    record {
      exists = holding-below registers.registers (held_of registers.places.order) registers.below c.args.holder
          c.args.block c.requires;
      holding = c.requires;
    }
