use Rattle.std.proofs.Common.{◌==◌, ◌∙◌, ap, arith}
use Rattle.std.proofs.lemmas.List.{length-map}
use Rattle.std.proofs.lemmas.List.Sums.{length-filter, count_by-le-length}
use Rattle.std.specs.List.{list_all}
use Rattle.lf_mshr.specs.RegisterFile.{inverted_file}
use Rattle.lf_mshr.specs.Places.{held_of}
use Rattle.lf_mshr.proofs.Placed.{held-left, own-left}
use Rattle.lf_mshr.proofs.inverted.InvertedOrganisation.release_into.Goals as goal

pub invariant_of-file : goal.invariant_of-file
invariant_of-file g c =
    let file = c.args.file.now in
    record {
      all = c.release_into.ensures.places ∙ file.all;
      own = ap (list_all (λ q. q.0 == q.1.register)) c.release_into.ensures.order
          ∙ own-left (λ q. q.0 == q.1.register) file.places.order c.args.block file.own;
    }

pub returns-clause-others : goal.returns-clause-others
returns-clause-others g c =
    let file = c.args.file.now in
    ap (inverted_file file.destinations) (ap held_of c.release_into.ensures.order
    ∙ held-left file.places.order c.args.block)

pub release_into-requires : goal.release_into-requires
release_into-requires g c =
    let order = c.args.file.now.places.order in
    let some = length-filter (λ h. h.block == c.args.block) (held_of order) in
    let most = count_by-le-length (λ h. h.block == c.args.block) (held_of order) in
    let all = length-map order (λ q. q.1) in
    let count = c.count-all.ensures in
    omega (arith, some, most, all, count)
