use Rattle.std.proofs.Common.{◌≡◌, None, refl, sym, ap, ◌∙◌}
use Rattle.lf_codec.specs.Reader.{fault_in}
use Rattle.lf_codec.specs.Reading.{Reading, fault_so_far}
use Rattle.lf_verdict.proofs.Pieces.{finish_failed, reading_stop, whole_trace}
use Rattle.lf_verdict.proofs.Refusals.{if_err_from}
use Rattle.lf_verdict.proofs.pool.gathering.Gathered.finish.Goals as goal

pub returns-clause-ok : goal.returns-clause-ok
returns-clause-ok c count bytes was =
    let s = c.args.self in
    let trace = (c.in_ok-header.ensures.trace bytes s.memory.items was.records was.read c.in_ok-header.header).0 refl in
    record {
      records = was.records;
      trace = whole_trace bytes c.in_ok-header.header s.memory.items s.reader.memory was.records s.reader.records
          was.no_memory was.no_records trace;
      logs = was.logs;
    }

pub returns-in_err-header-clause-err : goal.returns-in_err-header-clause-err
returns-in_err-header-clause-err c count bytes was =
    let s = c.args.self in
    let told = c.in_err-header.field-0.0 in
    let fine : fault_so_far bytes ≡ None = ap (λ (r : Reading). r.fault) was.read.same ∙ was.fine in
    let said = finish_failed _ _ _ bytes told fine refl
    (sym (c.in_err-header.ensures.ends bytes s.memory.items was.records was.read)) in
    if_err_from c.from_residual.result (λ stop. reading_stop bytes (fault_in told) stop said) c.from_residual.ensures.1
