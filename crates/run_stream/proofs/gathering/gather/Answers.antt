use Rattle.std.proofs.Common.{◌≡◌, ◌++◌, [], take, rules, arith, refl, ap, sym, ◌∙◌, append-nil, subst}
use Rattle.run_stream.proofs.GatheringLemmas.{begun, same_part, more_part, last_part}
use Rattle.run_stream.proofs.GatheringLemmas.{goes_from, goes_same, goes_more, goes_to_last, some_read}
use Rattle.run_stream.proofs.gathering.gather.Goals as goal
use Rattle.run_stream.proofs.gathering.gather.Goals.{in-Ok+in-Ok-false, in-Err+else-ne}

pub loop-turn-init : goal.loop-turn-init
loop-turn-init g c = record {
  calls = c.requires.calls;
  failures = c.requires.failures;
  room = refl;
  setting = refl;
  bytes = [];
  fed = c.requires.fresh;
  part = begun _ _ c.requires.wanted;
  goes_on = goes_from _;
}

pub returns-in-Ok-eq0-clause-all : goal.returns-in-Ok-eq0-clause-all
returns-in-Ok-eq0-clause-all g c =
    let so_far = c.loop-turn.invariant in
    let piece = take c.in-Ok-eq0.field-0 c.pull.new.buffer in
    let none : piece ≡ [] = search rules in
    let same : so_far.bytes ≡ so_far.bytes ++ piece =
    sym (ap (λ p. so_far.bytes ++ p) none ∙ append-nil so_far.bytes) in
    let read = c.in-Ok-eq0.ensures.read in (
      so_far.bytes ++ piece,
      subst (g.F.Sink.fed c.loop-turn.sink) same so_far.fed,
      last_part _ _ _ _ so_far.bytes so_far.part piece read.pieces read.known.0 _ (search rules) (λ _. none)
          (λ _. read.known.1 c.in-Ok-eq0.field-0-test (search rules)),
    )

pub returns-in-Ok-true-clause-all : goal.returns-in-Ok-true-clause-all
returns-in-Ok-true-clause-all g c =
    let so_far = c.loop-turn.invariant in
    let piece = take c.in-Ok.n c.pull.new.buffer in
    let read = c.in-Ok.ensures.read in
    let known = (c.in-Ok-true.ensures.enough so_far.bytes so_far.fed).0 (search rules) in
    let enough : g.F.Sink.has_enough (g.F.Sink.setting c.args.sink.now) (so_far.bytes ++ piece) =
    rw (sym so_far.setting) known in (
      so_far.bytes ++ piece,
      c.in-Ok-true.ensures.fed so_far.bytes so_far.fed,
      last_part _ _ _ _ so_far.bytes so_far.part piece read.pieces read.known.0 _ (search rules)
          (λ more. absurd (more enough)) (λ more. absurd (more enough)),
    )

pub loop-turn-preserved : goal.loop-turn-preserved
loop-turn-preserved g c =
    let so_far = c.loop-turn.invariant in
    elim c.match-pull.branch [
      | in-Ok+in-Ok-false w ↦
          let piece = take w.in-Ok.n c.pull.new.buffer in
          let read = w.in-Ok.ensures.read in
          rw w.sink-is (record {
            calls = omega (arith, read.calls, so_far.calls);
            failures = read.failures ∙ so_far.failures;
            room = search rules;
            setting = w.in-Ok-false.ensures.setting ∙ so_far.setting;
            bytes = so_far.bytes ++ piece;
            fed = w.in-Ok-false.ensures.fed so_far.bytes so_far.fed;
            part = more_part _ _ _ _ so_far.bytes so_far.part piece read.pieces read.known.0
                (λ h. let bad = (w.in-Ok-false.ensures.enough so_far.bytes so_far.fed).1 (rw so_far.setting h) in cc);
            goes_on = goes_more _ _ _ so_far.goes_on piece read.pieces
                (some_read w.in-Ok.n c.pull.new.buffer (search rules) (search rules));
          })
      | in-Err+else-ne w ↦
          let read = w.in-Err.ensures.read in
          rw w.sink-is (record {
            calls = omega (arith, read.calls, so_far.calls);
            failures = search (rules, read.failures, so_far.failures);
            room = search rules;
            setting = so_far.setting;
            bytes = so_far.bytes;
            fed = so_far.fed;
            part = same_part _ _ _ _ so_far.bytes so_far.part read.pieces read.known;
            goes_on = goes_same _ _ _ so_far.goes_on read.pieces;
          })
    ]

pub returns-then-ne-clause-part : goal.returns-then-ne-clause-part
returns-then-ne-clause-part g c =
    let so_far = c.loop-turn.invariant in
    let read = c.in-Err.ensures.read in
    (so_far.bytes, so_far.fed, same_part _ _ _ _ so_far.bytes so_far.part read.pieces read.known)

pub returns-clause-part : goal.returns-clause-part
returns-clause-part g c = let so_far = c.loop-turn.invariant in (so_far.bytes, so_far.fed, so_far.part)

pub returns-in-Ok-eq0-clause-once : goal.returns-in-Ok-eq0-clause-once
returns-in-Ok-eq0-clause-once g c =
    let so_far = c.loop-turn.invariant in
    goes_to_last _ _ _ so_far.goes_on (take c.in-Ok-eq0.field-0 c.pull.new.buffer) c.in-Ok-eq0.ensures.read.pieces

pub returns-in-Ok-true-clause-once : goal.returns-in-Ok-true-clause-once
returns-in-Ok-true-clause-once g c =
    let so_far = c.loop-turn.invariant in
    goes_to_last _ _ _ so_far.goes_on (take c.in-Ok.n c.pull.new.buffer) c.in-Ok.ensures.read.pieces

pub returns-then-ne-clause-unended : goal.returns-then-ne-clause-unended
returns-then-ne-clause-unended g c =
    let so_far = c.loop-turn.invariant in
    goes_same _ _ _ so_far.goes_on c.in-Err.ensures.read.pieces

pub returns-clause-unended : goal.returns-clause-unended
returns-clause-unended g c = c.loop-turn.invariant.goes_on
