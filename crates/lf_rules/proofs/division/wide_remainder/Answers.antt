use Rattle.std.proofs.Common.{arith, ◌≡◌, ◌-◌, ◌%◌, ◌^◌, bit_and}
use Rattle.std.proofs.lemmas.Nat.{and_mask}
use Rattle.std.proofs.lemmas.Bool.Decides.{nat_tests}
use Rattle.lf_rules.proofs.division.wide_remainder.Goals as goal

pub returns-then-by-places : goal.returns-then-by-places
returns-then-by-places c =
    let masked : bit_and c.args.n (2 ^ c.ilog2-places.result - 1) ≡ c.args.n % 2 ^ c.ilog2-places.result =
    and_mask c.args.n c.ilog2-places.result in
    grind (arith, nat_tests)
