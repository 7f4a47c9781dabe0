use Rattle.std.proofs.Common.{sym, subst}
use Rattle.lf_rules.specs.Lists.{lists_of}
use Rattle.lf_verdict.specs.declared.answer.Refusal.{Refusal}
use Rattle.lf_verdict.specs.declared.answer.Verdict.TheVariants.{Refused}
use Rattle.lf_verdict.specs.inner.Jobs.{IsWorkersAnswer}
use Rattle.lf_verdict.specs.Legal.{joined}
use Rattle.lf_verdict.proofs.Traces.{records_fit}
use Rattle.lf_verdict.proofs.Answered.{logs_count, logs_short, logs_fit_shape, of_workers_logs, of_header, of_reading}
use Rattle.lf_verdict.proofs.pool.shape_check.workers_verdict.Goals as goal

pub logs_verdict-requires-clause-count : goal.logs_verdict-requires-clause-count
logs_verdict-requires-clause-count g c κs lives = logs_count c.in-Ok.trace.logs _ c.in-Ok.ensures.ok.records
    c.in-Ok.ensures.ok.logs

pub logs_verdict-requires-clause-short : goal.logs_verdict-requires-clause-short
logs_verdict-requires-clause-short g c κs lives =
    let t = c.in-Ok.ensures.ok in
    logs_short c.in-Ok.trace.header.version c.in-Ok.trace.logs _ t.records t.logs t.trace.fits.logs

pub logs_verdict-requires-clause-fit : goal.logs_verdict-requires-clause-fit
logs_verdict-requires-clause-fit g c κs lives =
    let t = c.in-Ok.ensures.ok in
    logs_fit_shape c.args.shape.now c.in-Ok.trace.logs _ t.records t.logs
    (records_fit c.args.shape.now c.in-Ok.trace.header c.in-Ok.trace.memory.items t.records t.trace.fits
    c.in_default.ensures.none)

pub returns-in-Some-clause-answer : goal.returns-in-Some-clause-answer
returns-in-Some-clause-answer g c =
    let t = c.in-Ok.ensures.ok in
    of_header c.args.shape.now (joined c.args.pieces.now) c.in-Ok.trace.header c.in-Ok.trace.memory.items t.records
    c.in-Some.field t.trace c.in-Some.ensures.some

pub returns-in-Err-clause-answer : goal.returns-in-Err-clause-answer
returns-in-Err-clause-answer g c =
    let bytes = joined c.args.pieces.now in
    subst (λ (r : Refusal). IsWorkersAnswer c.args.shape.now bytes (Refused r)) (sym c.from.ensures)
    (of_reading c.args.shape.now bytes c.in-Err.stop c.in-Err.ensures.err)

pub returns-clause-answer : goal.returns-clause-answer
returns-clause-answer g c =
    let t = c.in-Ok.ensures.ok in
    of_workers_logs c.args.shape.now (joined c.args.pieces.now) c.in-Ok.trace.memory.items
    (lists_of c.in-Ok.trace.logs) c.logs_verdict.result
    (record {
      header = c.in-Ok.trace.header;
      records = t.records;
      trace = t.trace;
      agrees =
          c.in_default.ensures.none;
      are_logs = t.logs;
    })
    c.logs_verdict.ensures.verdict
