use Rattle.std.proofs.Common.{◌≡◌, ◌≤◌, ◌<◌, [], take, length, rules, arith, ◌∙◌}
use Rattle.std.specs.Prelude.{IsTrue}
use Rattle.std.proofs.lemmas.List.{length-take}
use Rattle.run_stream.proofs.GatheringLemmas.{some_read}
use Rattle.text_dump.specs.Dump.{piece_len}
use Rattle.text_dump.proofs.Stopping.{choosing_same, choosing_more, chosen_at_end, chosen_last, chosen_stop}
use Rattle.text_dump.proofs.Stopping.{stopped_by_read, stopped_by_turns, chosen_but, rests_otherwise}
use Rattle.text_dump.specs.declared.fault.DumpFault.TheVariants.{Memory}
use Rattle.text_dump.proofs.choosing.choose_lines.Goals as goal
use Rattle.text_dump.proofs.choosing.choose_lines.Goals.{in-Ok+in-Ok-false, in-Err+else-ne}

pub returns-in-Ok-eq0-clause-all : goal.returns-in-Ok-eq0-clause-all
returns-in-Ok-eq0-clause-all g c =
    let so_far = c.loop-turn.invariant in
    let piece = take c.in-Ok-eq0.field-0 c.pull.new.buffer in
    let read = c.in-Ok-eq0.ensures.read in
    let none : piece ≡ [] = search rules in
    let size : length c.pull.new.buffer ≡ piece_len = search rules in
    let one_read : length piece ≤ piece_len = omega (arith, size, length-take c.in-Ok-eq0.field-0 c.pull.new.buffer) in
    chosen_at_end _ _ _ _ _ _ c.args.turns _ _ _ so_far.choosing piece read.pieces read.known.0 one_read
    (omega (arith, read.calls, so_far.calls)) (read.failures ∙ so_far.failures)
    so_far.writes none (read.known.1 c.in-Ok-eq0.field-0-test (search rules))

pub returns-in-Ok-true-clause-all : goal.returns-in-Ok-true-clause-all
returns-in-Ok-true-clause-all g c =
    let so_far = c.loop-turn.invariant in
    let t = so_far.choosing in
    let piece = take c.in-Ok.n c.pull.new.buffer in
    let read = c.in-Ok.ensures.read in
    let size : length c.pull.new.buffer ≡ piece_len = search rules in
    let one_read : length piece ≤ piece_len = omega (arith, size, length-take c.in-Ok.n c.pull.new.buffer) in
    chosen_last _ _ _ _ _ _ c.args.turns _ _ _ t piece read.pieces read.known.0 one_read
    (omega (arith, read.calls, so_far.calls)) (read.failures ∙ so_far.failures)
    _ _ _ (search (rules, c.in-Ok-true.ensures.write)) c.in-Ok-true.field-0 (search rules)
    (c.in-Ok-true.ensures.chooses _ t.bytes t.out t.chosen_so_far)

pub returns-in-Err-choose-clause-stopped : goal.returns-in-Err-choose-clause-stopped
returns-in-Err-choose-clause-stopped g c =
    let so_far = c.loop-turn.invariant in
    let t = so_far.choosing in
    let piece = take c.in-Ok.n c.pull.new.buffer in
    let read = c.in-Ok.ensures.read in
    let size : length c.pull.new.buffer ≡ piece_len = search rules in
    let one_read : length piece ≤ piece_len = omega (arith, size, length-take c.in-Ok.n c.pull.new.buffer) in
    chosen_stop _ _ _ _ _ _ c.args.turns _ _ _ t piece read.pieces read.known.0 one_read
    (omega (arith, read.calls, so_far.calls)) (read.failures ∙ so_far.failures)
    _ c.choose.new.printer c.choose.new.chosen c.in-Err-choose.fault
    (c.in-Err-choose.ensures.chooses _ t.bytes t.out t.chosen_so_far) so_far.writes
    (search (rules, c.in-Err-choose.ensures.write))

pub loop-turn-preserved : goal.loop-turn-preserved
loop-turn-preserved g c =
    let so_far = c.loop-turn.invariant in
    let t = so_far.choosing in
    elim c.match-pull.branch [
      | in-Ok+in-Ok-false w ↦
          let piece = take w.in-Ok.n c.pull.new.buffer in
          let read = w.in-Ok.ensures.read in
          let size : length c.pull.new.buffer ≡ piece_len = search rules in
          let one_read : length piece ≤ piece_len = omega (arith, size, length-take w.in-Ok.n c.pull.new.buffer) in
          rw (w.printer-is, w.chosen-is, w.writer-is) (record {
            calls = omega (arith, read.calls, so_far.calls);
            failures = read.failures ∙ so_far.failures;
            room = search rules;
            writes = search (rules, w.in-Ok-false.ensures.write);
            choosing = choosing_more _ _ _ _ _ _ c.args.turns _ _ _ t piece read.pieces read.known.0 one_read
                (omega (arith, read.calls, so_far.calls)) (read.failures ∙ so_far.failures)
                _ _ _ (some_read w.in-Ok.n c.pull.new.buffer (search rules) (search rules))
                w.in-Ok-false.field-0 (λ is. let bad : IsTrue w.in-Ok-false.field-0 = is in cc)
                (w.in-Ok-false.ensures.chooses _ t.bytes t.out t.chosen_so_far);
          })
      | in-Err+else-ne w ↦
          let read = w.in-Err.ensures.read in
          rw (w.printer-is, w.chosen-is, w.writer-is) (record {
            calls = omega (arith, read.calls, so_far.calls);
            failures = search (rules, read.failures, so_far.failures);
            room = search rules;
            writes = so_far.writes;
            choosing = choosing_same _ _ _ _ _ _ _ _ _ t read.pieces read.known;
          })
    ]

pub returns-then-ne-clause-stopped : goal.returns-then-ne-clause-stopped
returns-then-ne-clause-stopped g c =
    let so_far = c.loop-turn.invariant in
    let read = c.in-Err.ensures.read in
    let failed : 0 < (g.S.Source.account c.pull.new.self).failures = search (rules, read.failures, so_far.failures) in
    stopped_by_read _ _ _ _ _ _ _ c.args.turns _ _ (choosing_same _ _ _ _ _ _ _ _ _ so_far.choosing read.pieces
    read.known) (omega (arith, read.calls, so_far.calls)) _ c.stop.ensures failed

pub returns-clause-stopped : goal.returns-clause-stopped
returns-clause-stopped g c =
    let so_far = c.loop-turn.invariant in
    stopped_by_turns _ _ _ _ _ _ _ c.args.turns _ _ so_far.choosing (omega (arith, so_far.calls)) _ c.stop-2.ensures
    so_far.failures (search (rules, so_far.calls))

pub returns-in-Err-choose-clause-memory : goal.returns-in-Err-choose-clause-memory
returns-in-Err-choose-clause-memory g c is =
    let so_far = c.loop-turn.invariant in
    let t = so_far.choosing in
    let piece = take c.in-Ok.n c.pull.new.buffer in
    let read = c.in-Ok.ensures.read in
    let size : length c.pull.new.buffer ≡ piece_len = search rules in
    let one_read : length piece ≤ piece_len = omega (arith, size, length-take c.in-Ok.n c.pull.new.buffer) in
    let same : c.in-Err-choose.fault ≡ Memory = cc in
    chosen_but _ _ _ _ _ _ c.args.turns _ _ _ t piece read.pieces read.known.0 one_read
    (omega (arith, read.calls, so_far.calls)) (read.failures ∙ so_far.failures)
    _ c.choose.new.printer c.choose.new.chosen c.in-Err-choose.fault same
    (c.in-Err-choose.ensures.chooses _ t.bytes t.out t.chosen_so_far)

pub returns-then-ne-clause-memory : goal.returns-then-ne-clause-memory
returns-then-ne-clause-memory g c is =
    let same : c.stop.result ≡ Memory = cc in
    absurd (rests_otherwise _ _ c.loop-turn.chosen _ _ c.stop.ensures (λ bad. absurd cc) same)

pub returns-clause-memory : goal.returns-clause-memory
returns-clause-memory g c is =
    let same : c.stop-2.result ≡ Memory = cc in
    absurd (rests_otherwise _ _ c.loop-turn.chosen _ _ c.stop-2.ensures (λ bad. absurd cc) same)
