use Rattle.std.proofs.Common.{◌∙◌, rules}
use Rattle.run_engine.proofs.JudgingLemmas.{concluded_by}
use Rattle.run_engine.proofs.judging.judge.Goals as goal

pub returns-in-Ok-gathered : goal.returns-in-Ok-gathered
returns-in-Ok-gathered g c =
    let got = c.in-Ok-gathered.ensures in
    let end = c.conclude-conclusion.ensures in
    concluded_by _ _ c.args.needs c.args.shape.now c.args.turns got.reads c.exact_reading.ensures
    c.fault_so_far.ensures.other c.faults_stand.ensures _ _ (search rules) _ _ _ _ c.asking-session.ensures.shape
    got.shape (got.asked ∙ c.asking-session.ensures.asked) end.fed got.once
    (λ failed. let bad = got.read.1 failed in absurd (cc)) got.are_bytes got.all end.concluded got.kept
