use Rattle.std.proofs.Common.{◌≤◌, ◌+◌, ◌∙◌, sym, length, arith}
use Rattle.bank_state.proofs.Bytes.{agree_past, agree_word, differ_here}
use Rattle.bank_state.proofs.memory.agree_off.Goals as goal
use Rattle.bank_state.proofs.memory.agree_off.Goals.{else-word-via-then-word+else-not-agree_between}
use Rattle.bank_state.proofs.memory.agree_off.Goals.{else-word-via-else-word}

pub returns-then-not-agree_between : goal.returns-then-not-agree_between
returns-then-not-agree_between c =
    let within : c.loop-at.at + 8 ≤ length c.args.bytes.now = omega (arith, c.loop-at-test.true) in
    differ_here c.args.bytes.now c.args.stored.now c.args.mask c.loop-at.at within
    (sym c.agree_between.ensures ∙ c.if-not-agree_between.true) _ c.loop-at.invariant.left

pub loop-at-preserved : goal.loop-at-preserved
loop-at-preserved c =
    let within : c.loop-at.at + 8 ≤ length c.args.bytes.now = omega (arith, c.loop-at-test.true) in
    let past = agree_past c.args.bytes.now c.args.stored.now c.args.mask c.loop-at.at within in record {
      within = within;
      left = elim c.else-word.branch [
        | else-word-via-then-word+else-not-agree_between w ↦
            past (sym w.agree_between.ensures ∙ w.if-not-agree_between.false) _ c.loop-at.invariant.left
        | else-word-via-else-word w ↦
            past (agree_word c.args.bytes.now c.args.stored.now c.args.mask c.loop-at.at within c.word.result
            c.word-in-loop-at.result (omega (arith, within, c.requires))
            (λ i. omega (arith, c.type_inv.bytes i)) c.fits-stored c.word.ensures c.word-in-loop-at.ensures
            w.if-word.false) _ c.loop-at.invariant.left
      ];
    }
