-- Each turn was a read, none failed, and the sink was fed what they answered, after which more is wanted.
use Rattle.std.proofs.Common.{◌≡◌, ℕ, List, length}
use Rattle.run_stream.specs.Gathered.{IsPartRead, GoesOn}
use Rattle.run_stream.proofs.gathering.gather.Given as goal

abbrev pub invariant-loop-turn : goal.invariant-loop-turn
invariant-loop-turn g l = record {
  calls : (g.S.Source.account l.source).calls ≡ l._turn;
  failures : (g.S.Source.account l.source).failures ≡ 0;
  room : length l.buffer ≡ length l.initial.buffer;
  setting : g.F.Sink.setting l.sink ≡ g.F.Sink.setting l.initial.sink;
  bytes : List ℕ;
  fed : g.F.Sink.fed l.sink bytes;
  part : IsPartRead
      (g.F.Sink.has_enough (g.F.Sink.setting l.initial.sink))
      (g.S.Source.account l.initial.source)
      (g.S.Source.account l.source)
      bytes;
  goes_on : GoesOn (g.S.Source.account l.initial.source).pieces (g.S.Source.account l.source).pieces;
}
