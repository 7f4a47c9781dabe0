use Rattle.std.proofs.Common.{List, ℕ, refl, sym, ap, ◌∙◌, subst}
use Rattle.std.proofs.lemmas.List.{append-nil}
use Rattle.lf_rules.specs.Fits.{Bytes}
use Rattle.lf_codec.specs.Reading.{Reading}
use Rattle.lf_codec.specs.Reader.{HasRead}
use Rattle.lf_verdict.proofs.Sessions.{waiting_any, waiting_kept, kept_waiting}
use Rattle.lf_verdict.proofs.session.intake.Intake.take_memory.Goals as goal

pub loop-item-preserved : goal.loop-item-preserved
loop-item-preserved c = record {
  shape = c.loop-item.invariant.shape;
  stop = c.loop-item.invariant.stop;
  waiting = c.loop-item.invariant.waiting;
  asked = c.loop-item.invariant.asked;
  taken = λ bytes taken.
      let s = c.loop-item.self in
      let waits = c.loop-item.invariant.waiting in
      let m = c.loop-item.invariant.taken bytes taken in
      let kept = waiting_kept s.judging m.1.taken s.memory.items waits m.1.kept in
      let read = subst (λ (items : List (ℕ × Bytes)). HasRead s.reader bytes items m.0) kept m.1.read in (
        m.0,
        record {
          in_range = m.1.in_range;
          taken = c.push.new.self.items;
          kept = kept_waiting s.judging c.push.new.self.items c.push.new.self.items waits refl;
          read = subst (λ (items : List (ℕ × Bytes)). HasRead c.take_memory.new.self bytes items m.0)
              (sym c.in_ok-push.ensures.items) (c.in-Some.ensures.taken bytes s.memory.items m.0 read);
          fine = λ on. ap (λ (q : Reading). q.fault) c.in-Some.ensures.rest ∙ m.1.fine on;
          judging = waiting_any s.shape s.asked.ordered bytes m.1.taken c.push.new.self.items m.0 s.judging waits
              m.1.judging;
        },
      );
}

pub returns-clause-taken : goal.returns-clause-taken
returns-clause-taken c bytes taken =
    let m = c.loop-item.invariant.taken bytes taken in (
      m.0,
      record {
        in_range = m.1.in_range;
        taken = m.1.taken;
        kept = m.1.kept;
        read = subst (λ (items : List (ℕ × Bytes)). HasRead c.take_memory.new.self bytes items m.0)
            (append-nil m.1.taken) (c.in_default.ensures.taken bytes m.1.taken m.0 m.1.read);
        fine = λ on. ap (λ (q : Reading). q.fault) c.in_default.ensures.rest ∙ m.1.fine on;
        judging = m.1.judging;
      },
    )
