use Rattle.std.proofs.Common.{◌++◌, sym, ◌∙◌}
use Rattle.lf_codec.specs.Reader.{fault_in}
use Rattle.lf_verdict.proofs.Pieces.{feed_failed, reading_stop, told_fine}
use Rattle.lf_verdict.proofs.Refusals.{if_err_from}
use Rattle.lf_verdict.proofs.pool.gathering.Gathered.feed.Goals as goal

pub returns-clause-ok : goal.returns-clause-ok
returns-clause-ok c count bytes was =
    let s = c.args.self.now in
    let fed = c.in_ok-feed.ensures.ok bytes s.memory.items was.records was.read in
    let m = c.in_ok-take_records.ensures.taken count (bytes ++ c.args.piece.now) _ was.records
    (c.in_ok-take_memory.ensures.taken (bytes ++ c.args.piece.now) was.records fed) was.logs in
    record {
      records = m.0;
      read = m.1.0;
      fine = c.in_ok-take_records.ensures.fault ∙ (c.in_ok-take_memory.ensures.fault
          ∙ told_fine s.reader.fault c.feed.new.self.fault was.fine (sym c.in_ok-feed.ensures.told));
      logs = m.1.1;
      no_memory = c.in_ok-take_records.ensures.memory ∙ c.in_ok-take_memory.ensures.none;
      no_records = c.in_ok-take_records.ensures.none;
    }

pub returns-in_err-feed-clause-err : goal.returns-in_err-feed-clause-err
returns-in_err-feed-clause-err c count bytes rest was =
    let s = c.args.self.now in
    let fed = bytes ++ c.args.piece.now in
    let told = c.in_err-feed.field-0.0 in
    let said = feed_failed s.reader.fault c.feed.new.self fed rest s.memory.items was.records told was.fine
    (sym c.in_err-feed.ensures.told) (c.in_err-feed.ensures.pieces bytes s.memory.items was.records was.read) in
    if_err_from c.from_residual.result (λ stop. reading_stop (fed ++ rest) (fault_in told) stop said)
    c.from_residual.ensures.1
