use Rattle.std.proofs.Common.{inl, inr, ◌≡◌, ◌≤◌, [], take, length, rules, arith, ◌∙◌}
use Rattle.std.specs.Prelude.{IsTrue}
use Rattle.std.proofs.lemmas.List.{length-take}
use Rattle.text_dump.specs.Dump.{piece_len}
use Rattle.wave_draw.proofs.Telling.{telling_start, telling_same, telling_more, told_at_end, told_last, stopped_by}
use Rattle.wave_draw.specs.declared.fault.ViewFault.TheVariants.{Read, Turns}
use Rattle.run_stream.specs.Counted.{account_of}
use Rattle.run_stream.proofs.GatheringLemmas.{goes_from, goes_same, goes_more, goes_to_last, some_read}
use Rattle.wave_draw.specs.Viewing.{drawing_of}
use Rattle.wave_draw.proofs.Viewed.{never_read, never_turns}
use Rattle.wave_draw.proofs.viewing.view_pieces.Goals as goal
use Rattle.wave_draw.proofs.viewing.view_pieces.Goals.{in-Ok+in-Ok-false, in-Err+else-ne}

pub loop-turn-init : goal.loop-turn-init
loop-turn-init g c = record {
  calls = c.requires.calls;
  failures = c.requires.failures;
  room = c.requires.room;
  writes = c.requires.writes;
  goes_on = goes_from _;
  telling = telling_start c.fault_so_far.ensures.other (drawing_of c.args.drawer.now)
      (g.S.Source.account c.args.source.now) (account_of g.W.Write.contents c.args.writer.now) c.args.drawer.now
      c.requires.fresh;
}

pub returns-in-Ok-eq0-clause-all : goal.returns-in-Ok-eq0-clause-all
returns-in-Ok-eq0-clause-all g c =
    let t = c.loop-turn.invariant.telling in
    let piece = take c.in-Ok-eq0.field-0 c.pull.new.buffer in
    let read = c.in-Ok-eq0.ensures.read in
    let none : piece ≡ [] = search rules in
    let size : length c.pull.new.buffer ≡ piece_len = search rules in
    let one_read : length piece ≤ piece_len = omega (arith, size, length-take c.in-Ok-eq0.field-0 c.pull.new.buffer) in
    told_at_end _ _ _ _ _ _ _ _ t piece read.pieces read.known.0 one_read none
    (read.known.1 c.in-Ok-eq0.field-0-test (search rules))

pub returns-in-Ok-true-clause-all : goal.returns-in-Ok-true-clause-all
returns-in-Ok-true-clause-all g c =
    let t = c.loop-turn.invariant.telling in
    let piece = take c.in-Ok.n c.pull.new.buffer in
    let read = c.in-Ok.ensures.read in
    let size : length c.pull.new.buffer ≡ piece_len = search rules in
    let one_read : length piece ≤ piece_len = omega (arith, size, length-take c.in-Ok.n c.pull.new.buffer) in
    told_last _ _ _ _ _ _ _ _ t piece read.pieces read.known.0 one_read _ _ c.in-Ok-true.field-0 (search rules)
    (c.in-Ok-true.ensures.shown _ t.bytes t.drawn)

pub returns-in-Err-show-clause-stopped : goal.returns-in-Err-show-clause-stopped
returns-in-Err-show-clause-stopped g c =
    let t = c.loop-turn.invariant.telling in
    let piece = take c.in-Ok.n c.pull.new.buffer in
    let read = c.in-Ok.ensures.read in
    let size : length c.pull.new.buffer ≡ piece_len = search rules in
    let one_read : length piece ≤ piece_len = omega (arith, size, length-take c.in-Ok.n c.pull.new.buffer) in
    stopped_by _ _ _ _ _ _ _ _ t piece read.pieces read.known.0 one_read _ c.show.new.drawer c.in-Err-show.fault
    (c.in-Err-show.ensures.shown _ t.bytes t.drawn)

pub returns-in-Err-show-clause-read : goal.returns-in-Err-show-clause-read
returns-in-Err-show-clause-read g c =
    let t = c.loop-turn.invariant.telling in
    let none : (g.S.Source.account c.pull.new.self).failures ≡ 0 =
    c.in-Ok.ensures.read.failures ∙ c.loop-turn.invariant.failures in (
      λ is.
          let same : c.in-Err-show.fault ≡ Read = cc in
          absurd (never_read (drawing_of c.args.drawer.now) (account_of g.W.Write.contents c.loop-turn.writer)
          (account_of g.W.Write.contents c.show.new.writer) c.show.new.drawer t.bytes
          (take c.in-Ok.n c.pull.new.buffer) c.in-Err-show.fault (c.in-Err-show.ensures.shown _ t.bytes t.drawn) same),
      λ some. absurd (omega (arith, some, none)),
    )

pub returns-in-Err-show-clause-turns : goal.returns-in-Err-show-clause-turns
returns-in-Err-show-clause-turns g c is =
    let t = c.loop-turn.invariant.telling in
    let same : c.in-Err-show.fault ≡ Turns = cc in
    absurd (never_turns (drawing_of c.args.drawer.now) (account_of g.W.Write.contents c.loop-turn.writer)
    (account_of g.W.Write.contents c.show.new.writer) c.show.new.drawer t.bytes
    (take c.in-Ok.n c.pull.new.buffer) c.in-Err-show.fault (c.in-Err-show.ensures.shown _ t.bytes t.drawn) same)

pub loop-turn-preserved : goal.loop-turn-preserved
loop-turn-preserved g c =
    let so_far = c.loop-turn.invariant in
    elim c.match-pull.branch [
      | in-Ok+in-Ok-false w ↦
          let piece = take w.in-Ok.n c.pull.new.buffer in
          let read = w.in-Ok.ensures.read in
          let size : length c.pull.new.buffer ≡ piece_len = search rules in
          let one_read : length piece ≤ piece_len = omega (arith, size, length-take w.in-Ok.n c.pull.new.buffer) in
          rw (w.drawer-is, w.writer-is) (record {
            calls = omega (arith, read.calls, so_far.calls);
            failures = read.failures ∙ so_far.failures;
            room = search rules;
            writes = search (rules, w.in-Ok-false.ensures.write);
            goes_on = goes_more _ _ _ so_far.goes_on piece read.pieces
                (some_read w.in-Ok.n c.pull.new.buffer (search rules) (search rules));
            telling = telling_more _ _ _ _ _ _ _ _ so_far.telling piece read.pieces read.known.0 one_read _ _
                w.in-Ok-false.field-0 (λ is. let bad : IsTrue w.in-Ok-false.field-0 = is in cc)
                (w.in-Ok-false.ensures.shown _ so_far.telling.bytes so_far.telling.drawn);
          })
      | in-Err+else-ne w ↦
          let read = w.in-Err.ensures.read in
          rw (w.drawer-is, w.writer-is) (record {
            calls = omega (arith, read.calls, so_far.calls);
            failures = search (rules, read.failures, so_far.failures);
            room = search rules;
            writes = so_far.writes;
            goes_on = goes_same _ _ _ so_far.goes_on read.pieces;
            telling = telling_same _ _ _ _ _ _ _ _ so_far.telling read.pieces read.known;
          })
    ]

pub returns-in-Ok-eq0-clause-once : goal.returns-in-Ok-eq0-clause-once
returns-in-Ok-eq0-clause-once g c =
    inr (goes_to_last _ _ _ c.loop-turn.invariant.goes_on (take c.in-Ok-eq0.field-0 c.pull.new.buffer)
    c.in-Ok-eq0.ensures.read.pieces)

pub returns-in-Ok-true-clause-once : goal.returns-in-Ok-true-clause-once
returns-in-Ok-true-clause-once g c =
    inr (goes_to_last _ _ _ c.loop-turn.invariant.goes_on (take c.in-Ok.n c.pull.new.buffer)
    c.in-Ok.ensures.read.pieces)

pub returns-in-Err-show-clause-once : goal.returns-in-Err-show-clause-once
returns-in-Err-show-clause-once g c =
    inr (goes_to_last _ _ _ c.loop-turn.invariant.goes_on (take c.in-Ok.n c.pull.new.buffer)
    c.in-Ok.ensures.read.pieces)

pub returns-then-ne-clause-once : goal.returns-then-ne-clause-once
returns-then-ne-clause-once g c = inl (goes_same _ _ _ c.loop-turn.invariant.goes_on c.in-Err.ensures.read.pieces)

pub returns-clause-once : goal.returns-clause-once
returns-clause-once g c = inl c.loop-turn.invariant.goes_on
