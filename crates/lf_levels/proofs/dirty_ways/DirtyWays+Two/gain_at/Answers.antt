use Rattle.std.proofs.Common.{ℕ, ◌≡◌, ◌<◌, List, length, get_or, arith, refl, ap, ◌∙◌, length-set}
use Rattle.std.specs.Prelude.{bit_or}
use Rattle.lf_rules.specs.Address.{Masks}
use Rattle.lf_rules.specs.Lines.{marked, no_masks}
use Rattle.lf_levels.specs.WayWords.{DirtyWays, words_at, masks_of}
use Rattle.lf_levels.proofs.WayWords.{some_factor, words_fit, part_long, read_way, written_way, masks_gain}
use Rattle.lf_levels.proofs.dirty_ways.DirtyWays+Two.gain_at.Goals as goal

pub overflow_mul-from : goal.overflow_mul-from
overflow_mul-from c =
    let fit = words_fit masks_of c.self.inside.words c.self.view_is
    (some_factor c.self.inside.factor c.self.invariant) refl c.requires.way in
    omega (arith, c.self.inside.words.ok, c.self.inside.words.small, fit)

pub overflow_add-words : goal.overflow_add-words
overflow_add-words c =
    let fit = words_fit masks_of c.self.inside.words c.self.view_is
    (some_factor c.self.inside.factor c.self.invariant) refl c.requires.way in
    omega (arith, c.self.inside.words.ok, c.self.inside.words.small, fit)

pub offset_bounds-deref_mut-from : goal.offset_bounds-deref_mut-from
offset_bounds-deref_mut-from c =
    let fit = words_fit masks_of c.self.inside.words c.self.view_is
    (some_factor c.self.inside.factor c.self.invariant) refl c.requires.way in
    omega (arith, c.deref_mut.type_inv.1, ap length c.deref_mut.ensures.value, fit)

pub slice_bounds-words-end : goal.slice_bounds-words-end
slice_bounds-words-end c =
    let fit = words_fit masks_of c.self.inside.words c.self.view_is
    (some_factor c.self.inside.factor c.self.invariant) refl c.requires.way in
    omega (arith, ap length c.deref_mut.ensures.value, fit)

pub returns : goal.returns
returns c =
    let some = some_factor c.self.inside.factor c.self.invariant in
    let words : List ℕ = words_at c.self.inside.factor c.deref_mut.result.now c.args.way in
    let long : length words ≡ c.self.inside.factor = part_long masks_of c.self.inside.words c.self.view_is some refl
    c.requires.way c.deref_mut.result.now c.deref_mut.ensures.value in
    let was = read_way masks_of c.self.inside.words c.self.view_is some refl c.requires.way c.deref_mut.result.now
    c.deref_mut.ensures.value (masks_of words) refl no_masks in
    let inside : c.args.place < length words = omega
    (arith, long, c.requires.place, ap (λ (d : DirtyWays Masks). d.factor) c.self.view_is) in
    written_way masks_of c.self.inside.words c.self.view_is some refl c.requires.way c.deref_mut.result.now
    c.deref_mut.ensures.value _ _ (length-set words c.args.place (bit_or (get_or words c.args.place 0) c.args.mask.0))
    (masks_gain words c.args.place c.args.mask.0 inside ∙ ap (λ masks. marked masks c.args.place c.args.mask.0) was)
