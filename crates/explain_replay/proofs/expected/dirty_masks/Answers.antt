use Rattle.std.proofs.Common.{◌≡◌, List, Option, sym, ap, ◌∙◌}
use Rattle.std.specs.Prelude.{unwrap_or}
use Rattle.lf_rules.specs.declared.mask.Mask.{Mask}
use Rattle.lf_rules.specs.declared.shape.Shape.{Shape}
use Rattle.lf_rules.specs.Address.{Masks, second_of}
use Rattle.lf_rules.specs.Lines.{line_at, no_masks}
use Rattle.lf_rules.specs.Outcomes.{first_local}
use Rattle.lf_rules.proofs.Wide.{second_of_sub}
use Rattle.lf_replay.proofs.Places.{factor_some}
use Rattle.lf_replay.specs.Step.{bank_after}
use Rattle.explain_replay.proofs.expected.dirty_masks.Goals as goal

pub returns-in-Some : goal.returns-in-Some
returns-in-Some c = λ shape memory bank rs stands.
    let seen = c.block_state-line2.ensures shape memory bank rs stands in
    let lines = (bank_after shape (first_local memory) rs).slice.lines2 in
    let same : c.args.shape.now ≡ shape = sym c.requires.shape ∙ stands.state.of_shape in
    let second : second_of shape c.sub_block.result ≡ c.args.second =
    ap (λ (s : Shape). second_of s c.sub_block.result) (sym same) ∙ ap (second_of c.args.shape.now) c.sub_block.ensures
    ∙ second_of_sub c.args.shape.now c.args.second 0 (factor_some c.args.shape.now.factor c.requires.in_range.factor) in
    ap (λ (o : Option Masks). unwrap_or o no_masks) (sym c.in-Some.is ∙ seen.line2 ∙ ap (line_at lines) second)

pub returns-in-None : goal.returns-in-None
returns-in-None c = λ shape memory bank rs stands.
    let seen = c.block_state-line2.ensures shape memory bank rs stands in
    let lines = (bank_after shape (first_local memory) rs).slice.lines2 in
    let same : c.args.shape.now ≡ shape = sym c.requires.shape ∙ stands.state.of_shape in
    let second : second_of shape c.sub_block.result ≡ c.args.second =
    ap (λ (s : Shape). second_of s c.sub_block.result) (sym same) ∙ ap (second_of c.args.shape.now) c.sub_block.ensures
    ∙ second_of_sub c.args.shape.now c.args.second 0 (factor_some c.args.shape.now.factor c.requires.in_range.factor) in
    let none : c.new.result ≡ no_masks = ap (λ (ms : List Mask). let masks : Masks = record { items = ms } in masks)
    c.new.ensures in
    none ∙ ap (λ (o : Option Masks). unwrap_or o no_masks) (sym c.in-None.is ∙ seen.line2 ∙ ap (line_at lines) second)
