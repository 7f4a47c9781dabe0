use Rattle.std.proofs.Common.{refl, sym, ◌∙◌, arith, length-take-le, rules}
use Rattle.lf_recorder.proofs.Places.{zeros_take}
use Rattle.lf_recorder.proofs.Steps.{starts}
use Rattle.lf_recorder.proofs.desk.Desk.new_version.Goals as goal

pub of_words-requires : goal.of_words-requires
of_words-requires c = starts c.from.result _ (length-take-le c.args.banks _ (omega arith) ∙ sym c.from.ensures)
    (zeros_take c.args.banks _ refl)

pub invariant_of-result : goal.invariant_of-result
invariant_of-result c = search rules

pub returns : goal.returns
returns c = search rules
