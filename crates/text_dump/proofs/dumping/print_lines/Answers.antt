use Rattle.std.proofs.Common.{◌≡◌, ◌≤◌, [], take, length, rules, arith, ◌∙◌}
use Rattle.std.specs.Prelude.{IsTrue}
use Rattle.std.proofs.lemmas.List.{length-take}
use Rattle.run_stream.proofs.GatheringLemmas.{goes_to_last, some_read}
use Rattle.text_dump.specs.Dump.{piece_len}
use Rattle.text_dump.specs.declared.fault.DumpFault.TheVariants.{Memory}
use Rattle.text_dump.proofs.Telling.{telling_same, telling_more, told_at_end, told_last, stopped_by, told_but_for_piece}
use Rattle.text_dump.proofs.dumping.print_lines.Goals as goal
use Rattle.text_dump.proofs.dumping.print_lines.Goals.{in-Ok+in-Ok-false, in-Err+else-ne}

pub returns-in-Ok-eq0-clause-all : goal.returns-in-Ok-eq0-clause-all
returns-in-Ok-eq0-clause-all g c =
    let t = c.loop-turn.invariant.telling in
    let piece = take c.in-Ok-eq0.field-0 c.pull.new.buffer in
    let read = c.in-Ok-eq0.ensures.read in
    let none : piece ≡ [] = search rules in
    let size : length c.pull.new.buffer ≡ piece_len = search rules in
    let one_read : length piece ≤ piece_len = omega (arith, size, length-take c.in-Ok-eq0.field-0 c.pull.new.buffer) in
    told_at_end _ _ _ _ _ _ _ t piece read.pieces read.known.0 one_read none
    (read.known.1 c.in-Ok-eq0.field-0-test (search rules))

pub returns-in-Ok-true-clause-all : goal.returns-in-Ok-true-clause-all
returns-in-Ok-true-clause-all g c =
    let t = c.loop-turn.invariant.telling in
    let piece = take c.in-Ok.n c.pull.new.buffer in
    let read = c.in-Ok.ensures.read in
    let size : length c.pull.new.buffer ≡ piece_len = search rules in
    let one_read : length piece ≤ piece_len = omega (arith, size, length-take c.in-Ok.n c.pull.new.buffer) in
    told_last _ _ _ _ _ _ _ t piece read.pieces read.known.0 one_read _ _ c.in-Ok-true.field-0 (search rules)
    (c.in-Ok-true.ensures.shown t.bytes t.shown)

pub returns-in-Err-show-clause-stopped : goal.returns-in-Err-show-clause-stopped
returns-in-Err-show-clause-stopped g c =
    let t = c.loop-turn.invariant.telling in
    let piece = take c.in-Ok.n c.pull.new.buffer in
    let read = c.in-Ok.ensures.read in
    let size : length c.pull.new.buffer ≡ piece_len = search rules in
    let one_read : length piece ≤ piece_len = omega (arith, size, length-take c.in-Ok.n c.pull.new.buffer) in
    stopped_by _ _ _ _ _ _ _ t piece read.pieces read.known.0 one_read _ c.show.new.printer c.in-Err-show.fault
    (c.in-Err-show.ensures.shown t.bytes t.shown)

pub loop-turn-preserved : goal.loop-turn-preserved
loop-turn-preserved g c =
    let so_far = c.loop-turn.invariant in
    elim c.match-pull.branch [
      | in-Ok+in-Ok-false w ↦
          let piece = take w.in-Ok.n c.pull.new.buffer in
          let read = w.in-Ok.ensures.read in
          let size : length c.pull.new.buffer ≡ piece_len = search rules in
          let one_read : length piece ≤ piece_len = omega (arith, size, length-take w.in-Ok.n c.pull.new.buffer) in
          rw (w.printer-is, w.writer-is) (record {
            calls = omega (arith, read.calls, so_far.calls);
            failures = read.failures ∙ so_far.failures;
            room = search rules;
            writes = search (rules, w.in-Ok-false.ensures.write);
            telling = telling_more _ _ _ _ _ _ _ so_far.telling piece read.pieces read.known.0 one_read _ _
                (some_read w.in-Ok.n c.pull.new.buffer (search rules) (search rules))
                w.in-Ok-false.field-0 (λ is. let bad : IsTrue w.in-Ok-false.field-0 = is in cc)
                (w.in-Ok-false.ensures.shown so_far.telling.bytes so_far.telling.shown);
          })
      | in-Err+else-ne w ↦
          let read = w.in-Err.ensures.read in
          rw (w.printer-is, w.writer-is) (record {
            calls = omega (arith, read.calls, so_far.calls);
            failures = search (rules, read.failures, so_far.failures);
            room = search rules;
            writes = so_far.writes;
            telling = telling_same _ _ _ _ _ _ _ so_far.telling read.pieces read.known;
          })
    ]

pub returns-in-Ok-eq0-clause-once : goal.returns-in-Ok-eq0-clause-once
returns-in-Ok-eq0-clause-once g c =
    let t = c.loop-turn.invariant.telling in
    goes_to_last _ _ _ t.goes_on (take c.in-Ok-eq0.field-0 c.pull.new.buffer) c.in-Ok-eq0.ensures.read.pieces

pub returns-in-Ok-true-clause-once : goal.returns-in-Ok-true-clause-once
returns-in-Ok-true-clause-once g c =
    let t = c.loop-turn.invariant.telling in
    goes_to_last _ _ _ t.goes_on (take c.in-Ok.n c.pull.new.buffer) c.in-Ok.ensures.read.pieces

pub returns-in-Err-show-clause-memory : goal.returns-in-Err-show-clause-memory
returns-in-Err-show-clause-memory g c is =
    let t = c.loop-turn.invariant.telling in
    let piece = take c.in-Ok.n c.pull.new.buffer in
    let read = c.in-Ok.ensures.read in
    let size : length c.pull.new.buffer ≡ piece_len = search rules in
    let one_read : length piece ≤ piece_len = omega (arith, size, length-take c.in-Ok.n c.pull.new.buffer) in
    let same : c.in-Err-show.fault ≡ Memory = cc in
    told_but_for_piece _ _ _ _ _ _ _ t piece read.pieces read.known.0 one_read _ c.show.new.printer
    c.in-Err-show.fault same (c.in-Err-show.ensures.shown t.bytes t.shown)
