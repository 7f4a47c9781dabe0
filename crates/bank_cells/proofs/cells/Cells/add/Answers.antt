use Rattle.std.proofs.Common.{◌≡◌, ◌+◌, ◌*◌, ◌/◌, ◌%◌, ◌^◌, Some, refl, ap, ◌∙◌, arith}
use Rattle.bank_cells.specs.Cells.{cell_in}
use Rattle.bank_state.proofs.Bytes.{zeros}
use Rattle.bank_cells.proofs.Added.{has_grown}
use Rattle.bank_cells.proofs.Placed.{one_shifted_wide}
use Rattle.bank_cells.proofs.cells.Cells.add.Goals as goal

pub invariant_of-self-2 : goal.invariant_of-self-2
invariant_of-self-2 c =
    let all = has_grown c.self.inside.shift c.self.inside.places c.add.new.self c.self.inside.seconds.items _ _
    c.self.inside.cells.items _ _ c.args.self.now c.args.block c.len-place.result _ _ c.self.view_is
    c.self.invariant.1 c.requires c.in_ok-add.ensures.ok (c.len-place.ensures ∙ c.self.inside.seconds.ok.0)
    c.reserve.ensures.items c.push_reserved.ensures.items c.reserve-2.ensures.items c.push_all.ensures
    (one_shifted_wide c.self.inside.shift c.self.invariant.0) refl refl refl (zeros 64) in
    (c.self.invariant.0, all.whole)

pub first_of-requires : goal.first_of-requires
first_of-requires c =
    let all = has_grown c.self.inside.shift c.self.inside.places c.add.new.self c.self.inside.seconds.items _ _
    c.self.inside.cells.items _ _ c.args.self.now c.args.block c.len-place.result _ _ c.self.view_is
    c.self.invariant.1 c.requires c.in_ok-add.ensures.ok (c.len-place.ensures ∙ c.self.inside.seconds.ok.0)
    c.reserve.ensures.items c.push_reserved.ensures.items c.reserve-2.ensures.items c.push_all.ensures
    (one_shifted_wide c.self.inside.shift c.self.invariant.0) refl refl refl (zeros 64) in
    record { second = c.args.block / 2 ^ c.self.inside.shift; found = all.there }

pub returns-clause-cell : goal.returns-clause-cell
returns-clause-cell c =
    let all = has_grown c.self.inside.shift c.self.inside.places c.add.new.self c.self.inside.seconds.items _ _
    c.self.inside.cells.items _ _ c.args.self.now c.args.block c.len-place.result _ _ c.self.view_is
    c.self.invariant.1 c.requires c.in_ok-add.ensures.ok (c.len-place.ensures ∙ c.self.inside.seconds.ok.0)
    c.reserve.ensures.items c.push_reserved.ensures.items c.reserve-2.ensures.items c.push_all.ensures
    (one_shifted_wide c.self.inside.shift c.self.invariant.0) refl refl refl (zeros 64) in
    let f = 2 ^ c.self.inside.shift in
    let sum : c.len-place.result * f + c.args.block % f ≡ c.first_of.result + c.part_of.result =
    omega (arith, c.first_of.ensures.value, c.part_of.ensures.value) in
    ap (cell_in f (c.args.block % f)) all.there ∙ ap Some sum

pub returns-clause-words : goal.returns-clause-words
returns-clause-words c =
    let all = has_grown c.self.inside.shift c.self.inside.places c.add.new.self c.self.inside.seconds.items _ _
    c.self.inside.cells.items _ _ c.args.self.now c.args.block c.len-place.result _ _ c.self.view_is
    c.self.invariant.1 c.requires c.in_ok-add.ensures.ok (c.len-place.ensures ∙ c.self.inside.seconds.ok.0)
    c.reserve.ensures.items c.push_reserved.ensures.items c.reserve-2.ensures.items c.push_all.ensures
    (one_shifted_wide c.self.inside.shift c.self.invariant.0) refl refl refl (zeros 64) in
    all.words

pub returns-clause-stays : goal.returns-clause-stays
returns-clause-stays c =
    let all = has_grown c.self.inside.shift c.self.inside.places c.add.new.self c.self.inside.seconds.items _ _
    c.self.inside.cells.items _ _ c.args.self.now c.args.block c.len-place.result _ _ c.self.view_is
    c.self.invariant.1 c.requires c.in_ok-add.ensures.ok (c.len-place.ensures ∙ c.self.inside.seconds.ok.0)
    c.reserve.ensures.items c.push_reserved.ensures.items c.reserve-2.ensures.items c.push_all.ensures
    (one_shifted_wide c.self.inside.shift c.self.invariant.0) refl refl refl (zeros 64) in
    all.stays
