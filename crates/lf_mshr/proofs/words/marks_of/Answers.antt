use Rattle.std.proofs.Common.{◌+◌, sym, subst, arith}
use Rattle.lf_mshr.proofs.Find.{AreMarks, marks-none, marks-one, marks-other}
use Rattle.lf_mshr.proofs.words.marks_of.Goals as goal
use Rattle.lf_mshr.proofs.words.marks_of.Goals.{then-blocks-at, else-blocks-at}

pub loop-at-init : goal.loop-at-init
loop-at-init c = marks-none c.args.blocks.now c.args.block

pub loop-at-preserved : goal.loop-at-preserved
loop-at-preserved c =
    let a = c.args in
    let l = c.loop-at in
    let few = c.requires in
    let more = c.loop-at-test.true in
    elim c.if-blocks-at.branch [
      | then-blocks-at w ↦
          subst (AreMarks a.blocks.now a.block (l.at + 1)) (sym w.marks-is)
          (marks-one a.blocks.now a.block l.at l.marks l.invariant (omega (arith, few, more)) w.if-blocks-at.true)
      | else-blocks-at w ↦
          subst (AreMarks a.blocks.now a.block (l.at + 1)) (sym w.marks-is)
          (marks-other a.blocks.now a.block l.at l.marks l.invariant w.if-blocks-at.false)
    ]

pub returns : goal.returns
returns c at lt = c.loop-at.invariant.seen at (let all = c.loop-at-test.false in omega (arith, lt, all))
