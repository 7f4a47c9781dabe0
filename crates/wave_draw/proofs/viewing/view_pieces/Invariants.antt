-- Each turn was a read, none failed, and the wave of what they answered, in which no fault stands, went out.
use Rattle.std.proofs.Common.{◌≡◌, length}
use Rattle.run_stream.specs.Counted.{failures_of, account_of}
use Rattle.run_stream.specs.Gathered.{GoesOn}
use Rattle.text_dump.specs.Dump.{piece_len}
use Rattle.wave_draw.specs.Viewing.{drawing_of}
use Rattle.wave_draw.proofs.Telling.{IsTelling}
use Rattle.wave_draw.proofs.viewing.view_pieces.Given as goal

abbrev pub invariant-loop-turn : goal.invariant-loop-turn
invariant-loop-turn g l = record {
  calls : (g.S.Source.account l.source).calls ≡ l._turn;
  failures : (g.S.Source.account l.source).failures ≡ 0;
  room : length l.buffer ≡ piece_len;
  writes : failures_of l.writer ≡ 0;
  goes_on : GoesOn (g.S.Source.account l.initial.source).pieces (g.S.Source.account l.source).pieces;
  telling : IsTelling
      (drawing_of l.initial.drawer)
      (g.S.Source.account l.initial.source)
      (g.S.Source.account l.source)
      (account_of g.W.Write.contents l.initial.writer)
      (account_of g.W.Write.contents l.writer)
      l._turn
      l.drawer;
}
