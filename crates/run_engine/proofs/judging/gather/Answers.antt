use Rattle.std.proofs.Common.{◌≡◌, ◌++◌, [], take, rules, arith, sym, ap, ◌∙◌, refl, subst, append-nil}
use Rattle.run_stream.proofs.GatheringLemmas.{begun, same_part, more_part, last_part}
use Rattle.run_stream.proofs.GatheringLemmas.{goes_from, goes_same, goes_more, goes_to_last, some_read}
use Rattle.run_stream.specs.Gathered.{IsPartRead, IsAllRead}
use Rattle.run_engine.specs.Gathered.{HasEnough}
use Rattle.run_engine.proofs.GatheringLemmas.{none_wanted}
use Rattle.run_engine.proofs.judging.gather.Goals as goal
use Rattle.run_engine.proofs.judging.gather.Goals.{in-Ok+in-Ok-false, in-Err+else-ne}

pub loop-turn-init : goal.loop-turn-init
loop-turn-init g c = record {
  calls = c.requires.calls;
  failures = c.requires.failures;
  room = refl;
  shape = refl;
  asked = refl;
  needs = refl;
  are_bytes = rw c.requires.fresh (search rules);
  kept = λ _. c.requires.empty ∙ sym c.requires.fresh;
  part = rw c.requires.fresh (begun _ _ (none_wanted c.fault_so_far.ensures.other _ _));
  goes_on = goes_from _;
}

pub loop-turn-preserved : goal.loop-turn-preserved
loop-turn-preserved g c =
    let so_far = c.loop-turn.invariant in
    elim c.match-pull.branch [
      | in-Ok+in-Ok-false w ↦
          let piece = take w.in-Ok.n c.pull.new.buffer in
          let read = w.in-Ok.ensures.read in
          let fed = w.in-Ok-false.ensures in
          rw w.feeding-is (record {
            calls = omega (arith, read.calls, so_far.calls);
            failures = read.failures ∙ so_far.failures;
            room = search rules;
            shape = fed.shape ∙ so_far.shape;
            asked = fed.asked ∙ so_far.asked;
            needs = fed.needs ∙ so_far.needs;
            are_bytes = fed.are_bytes so_far.are_bytes;
            kept = search rules;
            part = subst (IsPartRead _ _ _) (sym fed.fed)
                (more_part _ _ _ _ _ so_far.part piece read.pieces read.known.0 (λ enough.
                let bad = fed.enough.1 (subst (HasEnough _ _) (sym fed.fed)
                (rw so_far.needs (rw so_far.shape enough))) in cc));
            goes_on = goes_more _ _ _ so_far.goes_on piece read.pieces
                (some_read w.in-Ok.n c.pull.new.buffer (search rules) (search rules));
          })
      | in-Err+else-ne w ↦
          let read = w.in-Err.ensures.read in
          rw w.feeding-is (record {
            calls = omega (arith, read.calls, so_far.calls);
            failures = search (rules, read.failures, so_far.failures);
            room = search rules;
            shape = so_far.shape;
            asked = so_far.asked;
            needs = so_far.needs;
            are_bytes = so_far.are_bytes;
            kept = so_far.kept;
            part = same_part _ _ _ _ _ so_far.part read.pieces read.known;
            goes_on = goes_same _ _ _ so_far.goes_on read.pieces;
          })
    ]

pub returns-in-Ok-eq0-clause-all : goal.returns-in-Ok-eq0-clause-all
returns-in-Ok-eq0-clause-all g c =
    let so_far = c.loop-turn.invariant in
    let fed = c.loop-turn.feeding.session.fed in
    let piece = take c.in-Ok-eq0.field-0 c.pull.new.buffer in
    let none : piece ≡ [] = search rules in
    let same : fed ≡ fed ++ piece = sym (ap (λ p. fed ++ p) none ∙ append-nil fed) in
    let read = c.in-Ok-eq0.ensures.read in
    rw same (last_part _ _ _ _ fed so_far.part piece read.pieces read.known.0 _ (search rules) (λ _. none)
    (λ _. read.known.1 c.in-Ok-eq0.field-0-test (search rules)))

pub returns-in-Ok-true-clause-all : goal.returns-in-Ok-true-clause-all
returns-in-Ok-true-clause-all g c =
    let so_far = c.loop-turn.invariant in
    let fed = c.loop-turn.feeding.session.fed in
    let piece = take c.in-Ok.n c.pull.new.buffer in
    let read = c.in-Ok.ensures.read in
    let done = c.in-Ok-true.ensures in
    let enough : HasEnough c.args.feeding.now.needs c.args.feeding.now.session.shape (fed ++ piece) =
    subst (HasEnough _ _) done.fed (rw (sym so_far.needs) (rw (sym so_far.shape) (done.enough.0 (search rules)))) in
    rw done.fed (last_part _ _ _ _ fed so_far.part piece read.pieces read.known.0 _ (search rules)
    (λ wanted. absurd (wanted enough)) (λ wanted. absurd (wanted enough)))

pub returns-then-ne-clause-part : goal.returns-then-ne-clause-part
returns-then-ne-clause-part g c =
    let read = c.in-Err.ensures.read in
    (_, same_part _ _ _ _ _ c.loop-turn.invariant.part read.pieces read.known)

pub returns-clause-part : goal.returns-clause-part
returns-clause-part g c = (_, c.loop-turn.invariant.part)

pub returns-in-Ok-eq0-clause-once : goal.returns-in-Ok-eq0-clause-once
returns-in-Ok-eq0-clause-once g c =
    goes_to_last _ _ _ c.loop-turn.invariant.goes_on (take c.in-Ok-eq0.field-0 c.pull.new.buffer)
    c.in-Ok-eq0.ensures.read.pieces

pub returns-in-Ok-true-clause-once : goal.returns-in-Ok-true-clause-once
returns-in-Ok-true-clause-once g c =
    goes_to_last _ _ _ c.loop-turn.invariant.goes_on (take c.in-Ok.n c.pull.new.buffer) c.in-Ok.ensures.read.pieces

pub returns-then-ne-clause-unended : goal.returns-then-ne-clause-unended
returns-then-ne-clause-unended g c = goes_same _ _ _ c.loop-turn.invariant.goes_on c.in-Err.ensures.read.pieces

pub returns-clause-unended : goal.returns-clause-unended
returns-clause-unended g c = c.loop-turn.invariant.goes_on
