use Rattle.std.proofs.Common.{List, length, get_or, arith, ◌∙◌, sym, ap, subst, set, length-set}
use Rattle.std.specs.Prelude.{bit_or}
use Rattle.arrayvec.proofs.ArrayVecLemmas.{items-with_items}
use Rattle.lf_rules.specs.declared.mask.Mask.{Mask}
use Rattle.lf_rules.specs.Address.{clean_mask}
use Rattle.lf_levels.proofs.Joined.{IsJoinedTo, none_joined, joined_more, joined_all}
use Rattle.lf_levels.proofs.lines_two.join_masks.Goals as goal

pub loop-i-init : goal.loop-i-init
loop-i-init c = none_joined c.args.masks.now.items c.args.others.now.items

pub loop-i-preserved : goal.loop-i-preserved
loop-i-preserved c =
    let ms = c.args.masks.now.items in
    let others = c.args.others.now.items in
    let now : List Mask = c.deref_mut.result.now in
    let gained : Mask = record { 0 = bit_or (get_or now c.loop-i.i clean_mask).0 c.mask_at.result } in
    let is : IsJoinedTo ms others now c.loop-i.i =
    subst (λ (xs : List Mask). IsJoinedTo ms others xs c.loop-i.i) (sym c.deref_mut.ensures.value) c.loop-i.invariant in
    let kept = items-with_items c.loop-i.masks (set now c.loop-i.i gained)
    (length-set now c.loop-i.i gained ∙ ap (λ (xs : List Mask). length xs) c.deref_mut.ensures.value) in
    rw kept (joined_more ms others now c.loop-i.i gained is (omega (arith, c.len-i-end.ensures.value))
    (ap (λ (m : Mask). record { 0 = bit_or m.0 c.mask_at.result }) (is.after c.loop-i.i (omega arith))
    ∙ ap (λ n. record { 0 = bit_or (get_or ms c.loop-i.i clean_mask).0 n }) c.mask_at.ensures))

pub returns : goal.returns
returns c = joined_all c.args.masks.now.items c.args.others.now.items c.loop-i.masks.items c.loop-i.i
    c.loop-i.invariant (omega (arith, c.len-i-end.ensures.value))
