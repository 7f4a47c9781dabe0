-- Each turn was a read, none failed, and what they answered was fed, and is not enough.
use Rattle.std.proofs.Common.{◌≡◌, true, length}
use Rattle.lf_codec.specs.Laws.{AreBytes}
use Rattle.run_stream.specs.Gathered.{IsPartRead, GoesOn}
use Rattle.run_engine.specs.Gathered.{HasEnough}
use Rattle.run_engine.proofs.judging.gather.Given as goal

abbrev pub invariant-loop-turn : goal.invariant-loop-turn
invariant-loop-turn g l = record {
  calls : (g.S.Source.account l.source).calls ≡ l._turn;
  failures : (g.S.Source.account l.source).failures ≡ 0;
  room : length l.buffer ≡ length l.initial.buffer;
  shape : l.feeding.session.shape ≡ l.initial.feeding.session.shape;
  asked : l.feeding.session.asked ≡ l.initial.feeding.session.asked;
  needs : l.feeding.needs ≡ l.initial.feeding.needs;
  are_bytes : AreBytes l.feeding.session.fed;
  kept : l.initial.feeding.needs.bytes ≡ true → l.feeding.bytes.items ≡ l.feeding.session.fed;
  part : IsPartRead
      (HasEnough l.initial.feeding.needs l.initial.feeding.session.shape)
      (g.S.Source.account l.initial.source)
      (g.S.Source.account l.source)
      l.feeding.session.fed;
  goes_on : GoesOn (g.S.Source.account l.initial.source).pieces (g.S.Source.account l.source).pieces;
}
