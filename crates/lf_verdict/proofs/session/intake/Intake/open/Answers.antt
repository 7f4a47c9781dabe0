use Rattle.std.proofs.Common.{◌≡◌, ℕ, List, [], length, Some, refl, sym, subst, arith}
use Rattle.lf_rules.specs.declared.event.Record.{Record}
use Rattle.lf_rules.specs.Fits.{Bytes}
use Rattle.lf_codec.specs.Reading.{header_of}
use Rattle.lf_codec.specs.Reader.{HasRead}
use Rattle.lf_verdict.specs.declared.session.intake.Intake.{Intake}
use Rattle.lf_verdict.specs.declared.session.intake.Judging.{Judging}
use Rattle.lf_verdict.specs.inner.Fed.{HasTaken, IsJudging, IsRunning}
use Rattle.lf_verdict.proofs.Lengths.{opened}
use Rattle.lf_verdict.proofs.Sessions.{on_ok, waiting_kept}
use Rattle.lf_verdict.proofs.session.intake.Intake.open.Goals as goal

pub returns-then-len-from-clause-taken : goal.returns-then-len-from-clause-taken
returns-then-len-from-clause-taken c bytes taken =
    let s = c.args.self.now in
    let h = c.in-Some.header in
    let memory = s.memory.items in
    let was = taken.1 in
    let kept = waiting_kept s.judging was.taken memory c.requires.waiting was.kept in
    let given = subst (λ (items : List (ℕ × Bytes)). HasRead s.reader bytes items taken.0) kept was.read in
    let none : taken.0 ≡ [] = subst (λ (j : Judging). IsJudging s.shape s.asked.ordered bytes was.taken taken.0 j)
    c.requires.waiting was.judging in
    let read : header_of bytes ≡ Some h = sym (c.in-Some.ensures.read bytes memory taken.0 given) in
    let whole : length memory ≡ h.memory_count = omega (arith, c.if-len-from.true, c.len.ensures, c.from.ensures) in
    on_ok c.begin.result c.begin.ensures.begun
    (λ begun.
    let run = opened c.read_so_far.ensures s.shape s.asked.ordered bytes memory taken.0 s.reader h
    c.first_offset.result begun.running given read c.in_default-differing.ensures.none whole
    c.first_offset.ensures begun.stands begun.watched begun.keeps in
    subst (λ (t : Intake). HasTaken t bytes) (sym begun.rest) (
      taken.0,
      record {
        in_range = was.in_range;
        taken = memory;
        kept = refl;
        read = given;
        fine = was.fine;
        judging =
            subst (λ (rs : List Record). IsRunning s.shape s.asked.ordered bytes memory rs begun.running) (sym none)
            run;
      },
    ))
