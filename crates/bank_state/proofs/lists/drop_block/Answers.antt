use Rattle.std.proofs.Common.{◌+◌, ◌==◌, ◌<◌, ◌≤◌, ◌∙◌, ℕ, not, length, ap, refl, sym, subst, arith, rules}
use Rattle.std.proofs.lemmas.List.{take_all}
use Rattle.lf_rules.specs.Table.{without}
use Rattle.bank_state.proofs.Moved.{AreMoved, moved_more, moved_past}
use Rattle.bank_state.proofs.lists.drop_block.Goals as goal
use Rattle.bank_state.proofs.lists.drop_block.Goals.{then-other-block, else-other-block}

pub loop-at-init : goal.loop-at-init
loop-at-init c = record { long = refl; within = omega arith; front = refl; rest = refl }

pub loop-at-preserved : goal.loop-at-preserved
loop-at-preserved c =
    let l = c.loop-at in
    let p = λ (b : ℕ). not (b == c.args.block) in
    let other = c.index-other.result.now in
    let lt : l.at < length l.blocks.items =
    omega (arith, c.loop-at-test.true, c.len-at-end.ensures, l.invariant.long) in
    elim c.if-other-block.branch [
      | then-other-block w ↦
          subst (AreMoved p c.args.blocks.now.items _ (l.at + 1)) (sym w.kept-is)
          (moved_more p c.args.blocks.now.items l.blocks.items l.at l.kept other other l.invariant lt
          (sym c.index-other.ensures) (search (rules, w.if-other-block.true)))
      | else-other-block w ↦
          subst (AreMoved p c.args.blocks.now.items _ (l.at + 1)) (sym w.kept-is)
          (moved_past p c.args.blocks.now.items l.blocks.items l.at l.kept other other l.invariant lt
          (sym c.index-other.ensures) (search (rules, w.if-other-block.false)))
    ]

pub returns : goal.returns
returns c =
    let l = c.loop-at.invariant in
    let all : length c.args.blocks.now.items ≤ c.loop-at.at =
    omega (arith, c.loop-at-test.false, c.len-at-end.ensures) in
    c.truncate.ensures.items ∙ l.front
    ∙ ap (λ bs. without bs c.args.block) (take_all c.loop-at.at c.args.blocks.now.items all)
