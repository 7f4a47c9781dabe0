use Rattle.std.proofs.Common.{◌≡◌, None, sym, ap, ◌∙◌, subst}
use Rattle.lf_rules.specs.Address.{flat_memory}
use Rattle.lf_codec.specs.Reading.{Reading, fault_so_far, trace_fault}
use Rattle.lf_codec.specs.Reader.{fault_in}
use Rattle.lf_verdict.specs.declared.answer.Outcome.TheVariants.{Refused}
use Rattle.lf_verdict.specs.declared.answer.Refusal.{Refusal}
use Rattle.lf_verdict.specs.declared.answer.Refusal.TheVariants as refusals
use Rattle.lf_verdict.specs.declared.session.intake.Judging.{Judging}
use Rattle.lf_verdict.specs.declared.session.standing.verdict.Judged.{Judged}
use Rattle.lf_verdict.specs.Outcome.{IsYesOutcome}
use Rattle.lf_verdict.specs.inner.Fed.{IsCounting, IsJudging}
use Rattle.lf_verdict.specs.inner.Judged.{IsOutcomeOrWant, IsJudged}
use Rattle.lf_verdict.specs.inner.Taking.{IsLacking, IsDrained}
use Rattle.lf_verdict.specs.inner.Coming.{logs_so_far}
use Rattle.lf_verdict.proofs.Concluded.{refusal_judged, judged_of_logs}
use Rattle.lf_verdict.proofs.Pieces.{finish_failed}
use Rattle.lf_verdict.proofs.Sessions.{told_stop, another, trace_for, short_logs, waiting_kept, waits_no_more}
use Rattle.lf_verdict.proofs.session.intake.Intake.judged.Goals as goal

pub returns-in-Err-clause-judged : goal.returns-in-Err-clause-judged
returns-in-Err-clause-judged c bytes m =
    let s = c.args.self.now in
    let fine : fault_so_far bytes ≡ None = ap (λ (q : Reading). q.fault) m.1.read.same
    ∙ m.1.fine c.requires.going in
    subst (IsJudged s.shape bytes) (sym c.of.ensures)
    (refusal_judged s.shape bytes c.from-in-Err.result
    (subst (λ (r : Refusal). IsOutcomeOrWant s.shape bytes (Refused r)) (sym c.from-in-Err.ensures)
    (told_stop s.shape bytes (fault_in c.in-Err.told) c.from.result
    (finish_failed (fault_so_far bytes) (trace_fault bytes) s.reader.progress.header bytes c.in-Err.told fine
    (λ i. trace_fault bytes)
    (sym (c.finish.ensures.ends bytes m.1.taken m.0 m.1.read) ∙ c.in-Err.is))
    c.from.ensures)))

pub returns-in-Err-clause-ordered : goal.returns-in-Err-clause-ordered
returns-in-Err-clause-ordered c ordered told =
    absurd (subst (λ (j : Judged). IsYesOutcome j.outcome) c.of.ensures told)

pub returns-in-Err-clause-counted : goal.returns-in-Err-clause-counted
returns-in-Err-clause-counted c counts told =
    absurd (subst (λ (j : Judged). IsYesOutcome j.outcome) c.of.ensures told)

pub judged-requires : goal.judged-requires
judged-requires c =
    let bytes = c.requires.taken.0 in
    let m = c.requires.taken.1 in
    let s = c.args.self.now in
    let h = c.in_default.field-0 in
    let trace = (c.finish.ensures.trace bytes m.1.taken m.0 m.1.read h).0 c.in_default.is in
    let run = subst (λ (j : Judging). IsJudging s.shape s.asked.ordered bytes m.1.taken m.0 j) c.in-Running.is
    m.1.judging in
    let drained = subst (λ (j : Judging). IsDrained j s.reader s.memory.items) c.in-Running.is c.requires.drained in
    record {
      shape = s.shape;
      memory = flat_memory m.1.taken;
      records = m.0;
      stands = run.stands;
      short = short_logs c.exact_reading.ensures s.shape bytes m.1.read.are_bytes h m.1.taken s.reader.memory m.0
          s.reader.records trace c.in-Running.standing run drained m.1.in_range;
    }

pub unreachable-requires : goal.unreachable-requires
unreachable-requires c =
    let s = c.args.self.now in
    let bytes = c.requires.taken.0 in
    let m = c.requires.taken.1 in
    let h = c.in_default.field-0 in
    let trace = (c.finish.ensures.trace bytes m.1.taken m.0 m.1.read h).0 c.in_default.is in
    let kept = waiting_kept s.judging m.1.taken s.memory.items c.in-Waiting.is m.1.kept in
    let lacking = subst (IsLacking s.reader) (sym kept)
    (subst (λ (j : Judging). IsDrained j s.reader s.memory.items) c.in-Waiting.is c.requires.drained) in
    waits_no_more c.exact_reading.ensures bytes s.reader h m.1.taken m.0 m.1.read trace lacking

pub returns-in-Another-clause-judged : goal.returns-in-Another-clause-judged
returns-in-Another-clause-judged c bytes m =
    let s = c.args.self.now in
    let h = c.in_default.field-0 in
    let trace = (c.finish.ensures.trace bytes m.1.taken m.0 m.1.read h).0 c.in_default.is in
    let other = subst (λ (j : Judging). IsJudging s.shape s.asked.ordered bytes m.1.taken m.0 j) c.in-Another.is
    m.1.judging in
    subst (IsJudged s.shape bytes) (sym c.of-in-Another.ensures)
    (refusal_judged s.shape bytes (refusals.Header c.in-Another.field)
    (another c.exact_reading.ensures s.shape bytes m.1.read.are_bytes h m.1.taken s.reader.memory m.0
    s.reader.records trace c.in-Another.field other))

pub returns-in-Another-clause-ordered : goal.returns-in-Another-clause-ordered
returns-in-Another-clause-ordered c ordered told =
    absurd (subst (λ (j : Judged). IsYesOutcome j.outcome) c.of-in-Another.ensures told)

pub returns-in-Another-clause-counted : goal.returns-in-Another-clause-counted
returns-in-Another-clause-counted c counts told =
    absurd (subst (λ (j : Judged). IsYesOutcome j.outcome) c.of-in-Another.ensures told)

pub returns-in-Running-clause-judged : goal.returns-in-Running-clause-judged
returns-in-Running-clause-judged c bytes m =
    let s = c.args.self.now in
    let h = c.in_default.field-0 in
    let trace = (c.finish.ensures.trace bytes m.1.taken m.0 m.1.read h).0 c.in_default.is in
    let run = subst (λ (j : Judging). IsJudging s.shape s.asked.ordered bytes m.1.taken m.0 j) c.in-Running.is
    m.1.judging in
    let drained = subst (λ (j : Judging). IsDrained j s.reader s.memory.items) c.in-Running.is c.requires.drained in
    judged_of_logs s.shape bytes m.1.taken (logs_so_far s.shape m.0)
    (trace_for c.exact_reading.ensures s.shape bytes m.1.read.are_bytes h m.1.taken s.reader.memory m.0
    s.reader.records trace c.in-Running.standing run drained) c.judged.result
    (c.judged.ensures.judged s.shape (flat_memory m.1.taken) m.0 run.stands
    (short_logs c.exact_reading.ensures s.shape bytes m.1.read.are_bytes h m.1.taken s.reader.memory m.0
    s.reader.records trace c.in-Running.standing run drained m.1.in_range))

pub returns-in-Running-clause-ordered : goal.returns-in-Running-clause-ordered
returns-in-Running-clause-ordered c ordered =
    let s = c.args.self.now in
    let bytes = c.requires.taken.0 in
    let m = c.requires.taken.1 in
    let run = subst (λ (j : Judging). IsJudging s.shape s.asked.ordered bytes m.1.taken m.0 j) c.in-Running.is
    m.1.judging in
    c.judged.ensures.ordered (run.keeping ∙ ordered)

pub returns-in-Running-clause-counted : goal.returns-in-Running-clause-counted
returns-in-Running-clause-counted c counts = c.judged.ensures.counted (subst IsCounting c.in-Running.is counts)
