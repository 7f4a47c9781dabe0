use Rattle.std.proofs.Common.{◌≡◌, ◌*◌, ◌≤◌, ◌==◌, not, ◌∙◌, sym, ap, subst}
use Rattle.lf_rules.specs.Registers.{released}
use Rattle.lf_mshr.specs.Index.{are_in_rows}
use Rattle.lf_mshr.specs.Places.{held_of}
use Rattle.lf_mshr.specs.RegisterFile.{explicit_file}
use Rattle.lf_mshr.proofs.Bounds.{IsWithin-filter}
use Rattle.lf_mshr.proofs.Indexed.{holding-below}
use Rattle.lf_mshr.proofs.Placed.{held-left}
use Rattle.lf_mshr.proofs.Rows.{rows-left}
use Rattle.lf_mshr.proofs.explicit.ExplicitOrganisation.release_of.Goals as goal

pub invariant_of-file : goal.invariant_of-file
invariant_of-file g c =
    let file = c.args.file.now in
    let r = file.registers in
    let order = r.places.order in
    let same : held_of c.release_of.new.self.places.order ≡ released (held_of order) c.args.block =
    ap held_of c.release_of.ensures.order ∙ held-left order c.args.block in
    record {
      all = c.release_of.ensures.places ∙ file.all ∙ ap (λ n. n * file.entries)
          (sym c.release_of.ensures.registers);
      within = rw (c.release_of.ensures.registers, same) (IsWithin-filter file.within
          (λ h. not (h.block == c.args.block)));
      rows = ap (are_in_rows file.entries) c.release_of.ensures.order
          ∙ rows-left file.entries r.registers r.used r.blocks.items order r.index file.within r.once c.args.holder
          c.args.block (holding-below r.registers (held_of order) r.below c.args.holder c.args.block c.requires)
          c.requires file.rows;
      some_entry = file.some_entry;
      limit = subst (λ n. n * file.entries ≤ 4096) (sym c.release_of.ensures.registers) file.limit;
    }

pub returns-clause-others : goal.returns-clause-others
returns-clause-others g c =
    let file = c.args.file.now in
    ap (λ n. explicit_file n file.entries file.destinations (held_of c.release_of.new.self.places.order))
    c.release_of.ensures.registers
    ∙ ap (explicit_file file.registers.registers file.entries file.destinations)
    (ap held_of c.release_of.ensures.order ∙ held-left file.registers.places.order c.args.block)

pub release_of-requires : goal.release_of-requires
release_of-requires g c =
    let registers = c.args.file.now.registers in
    record {
      exists = holding-below registers.registers (held_of registers.places.order) registers.below c.args.holder
          c.args.block c.requires;
      holding = c.requires;
    }
