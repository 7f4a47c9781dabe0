use Rattle.std.proofs.Common.{◌≡◌, ap, arith}
use Rattle.std.specs.List.{slice_split}
use Rattle.text_assemble.specs.Assembly.{is_newline, least_of}
use Rattle.text_assemble.specs.Draft.{lines_in}
use Rattle.text_assemble.proofs.Versions.{one_at_least}
use Rattle.text_assemble.proofs.assembling.least_of.Goals as goal

pub loop-rest-init : goal.loop-rest-init
loop-rest-init c =
    let some = one_at_least (slice_split is_newline c.args.text.now) in
    record { so_far = omega (arith, some); some = omega arith }

pub returns : goal.returns
returns c =
    let none : least_of (lines_in c.loop-rest.rest) ≡ 1 = ap (λ r. least_of (lines_in r)) c.in_default.is in
    omega (arith, none, c.loop-rest.invariant.so_far, c.loop-rest.invariant.some)
