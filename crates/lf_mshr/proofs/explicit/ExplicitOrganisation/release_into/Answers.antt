use Rattle.std.proofs.Common.{sym, ap, map, ◌∙◌}
use Rattle.lf_mshr.specs.RegisterFile.{explicit_file, released_pair}
use Rattle.lf_mshr.specs.Places.{held_of}
use Rattle.lf_mshr.proofs.Indexed.{targets-none}
use Rattle.lf_mshr.proofs.Placed.{held-left, left-none}
use Rattle.lf_mshr.proofs.explicit.ExplicitOrganisation.release_into.Goals as goal

pub returns-in-None-clause-targets : goal.returns-in-None-clause-targets
returns-in-None-clause-targets g c =
    let held = held_of c.args.file.now.registers.places.order in
    c.clear.ensures ∙ sym (ap (map released_pair) (targets-none held c.args.block c.in-None.ensures.none))

pub returns-in-None-clause-others : goal.returns-in-None-clause-others
returns-in-None-clause-others g c =
    let file = c.args.file.now in
    let order = file.registers.places.order in
    ap (explicit_file file.registers.registers file.entries file.destinations)
    (sym (ap held_of (left-none order c.args.block c.in-None.ensures.none)) ∙ held-left order c.args.block)
