use Rattle.std.proofs.Common.{◌++◌, ◌∷◌, [], sym}
use Rattle.lf_verdict.proofs.Judges.{steady_if, turn_fits, judged_more}
use Rattle.lf_verdict.proofs.session.standing.bank_judge.BankJudge.settle_ready.Goals as goal

pub judge_next-requires-clause-step : goal.judge_next-requires-clause-step
judge_next-requires-clause-step c =
    let r = c.requires in
    let m = c.loop-item.invariant.judged r.shape r.memory r.bank r.came r.gave r.judged in
    turn_fits r.shape r.memory r.bank r.came m.0 c.loop-item.self m.1 c.lend_next.new.place
    (c.if-not-lend_next.ensures.there r.came m.0 m.1.ordered)

pub judge_next-requires-clause-steady : goal.judge_next-requires-clause-steady
judge_next-requires-clause-steady c =
    let r = c.requires in
    let m = c.loop-item.invariant.judged r.shape r.memory r.bank r.came r.gave r.judged in
    steady_if r.shape m.0 c.loop-item.self.count m.1.counted

pub loop-item-preserved : goal.loop-item-preserved
loop-item-preserved c = record {
  judged = λ shape memory bank came gave judged.
      let m = c.loop-item.invariant.judged shape memory bank came gave judged in
      let item = c.lend_next.new.place in
      let turn = c.if-not-lend_next.ensures.there came m.0 m.1.ordered in (
        m.0 ++ item ∷ [],
        judged_more shape memory bank came m.0 c.loop-item.self m.1 item
            (record {
              order = c.drop_next.new.self;
              step = c.judge_next.new.step;
              outcome = c.judge_next.new.outcome;
              count = c.judge_next.new.count;
            }) turn
            (c.drop_next.ensures.given came m.0 item m.1.ordered (sym turn))
            c.drop_next.ensures.bank c.drop_next.ensures.header c.in_ok-judge_next.ensures.bank
            c.in_ok-judge_next.ensures.shape
            (λ number at. c.in_ok-judge_next.ensures.judged shape memory bank m.0 number at)
            (c.in_ok-judge_next.ensures.counted shape m.0),
      );
  counts = λ counts. c.in_ok-judge_next.ensures.counts (c.loop-item.invariant.counts counts);
}

pub returns-then-not-lend_next-clause-settles : goal.returns-then-not-lend_next-clause-settles
returns-then-not-lend_next-clause-settles c shape memory bank came gave judged =
    let m = c.loop-item.invariant.judged shape memory bank came gave judged in (
      m.0,
      record { bank_judged = m.1; drained = sym (c.if-not-lend_next.ensures.there came m.0 m.1.ordered) },
    )
