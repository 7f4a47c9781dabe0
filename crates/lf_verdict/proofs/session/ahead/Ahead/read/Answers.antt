use Rattle.std.proofs.Common.{rules, refl, ◌++◌, sym}
use Rattle.lf_codec.specs.Reader.{with_records}
use Rattle.lf_verdict.specs.inner.Ahead.{lent_records}
use Rattle.lf_verdict.proofs.Refusals.{if_err_from}
use Rattle.lf_verdict.proofs.Sessions.{packed_stop}
use Rattle.lf_verdict.proofs.Aheads.{taken_too, reads_more, can_still}
use Rattle.lf_verdict.proofs.session.ahead.Ahead.read.Goals as goal

pub returns-in_err-pack : goal.returns-in_err-pack
returns-in_err-pack g c =
    let a = c.args.self.now in
    let s = a.intake in
    let lent = lent_records a.at_work in
    let told = c.in_err-pack.field-0.0 in
    record {
      shape = refl;
      asked = refl;
      stop = refl;
      running = search rules;
      workers = c.requires.can.workers;
      taken = search rules;
      stopped = if_err_from c.from_residual.result (λ stop is bytes taken.
          packed_stop s.reader.fault
          (with_records c.pack.new.records.records c.pack.new.self) (bytes ++ c.args.piece.now)
          taken.1.taken (taken.0 ++ lent) told stop (taken.1.fine c.requires.can.going) (sym c.in_err-pack.ensures.told)
          (c.in_err-pack.ensures.pieces bytes taken.1.taken (taken.0 ++ lent)
          (taken_too s.reader bytes taken.1.taken taken.0 lent a.records.records taken.1.read)) is)
          c.from_residual.ensures.1;
    }

pub returns-else-is_due : goal.returns-else-is_due
returns-else-is_due g c =
    let a = c.args.self.now in
    reads_more c.header_of_bytes.ensures a c.args.piece.now c.pack.new.self c.pack.new.records c.requires.can
    c.in_ok-pack.ensures.ok (sym c.in_ok-pack.ensures.told)

pub hand_over-requires-clause-can : goal.hand_over-requires-clause-can
hand_over-requires-clause-can g c κs lives =
    let a = c.args.self.now in
    let r = c.pack.new.self in
    let rs = c.pack.new.records in
    can_still a (record a { intake = record a.intake { reader = r }; records = rs }) c.args.piece.now c.requires.can
    (reads_more c.header_of_bytes.ensures a c.args.piece.now r rs c.requires.can c.in_ok-pack.ensures.ok
    (sym c.in_ok-pack.ensures.told))

pub returns-in_ok-hand_over : goal.returns-in_ok-hand_over
returns-in_ok-hand_over g c =
    let a = c.args.self.now in
    let over = c.in_ok-hand_over.ensures in
    let read = reads_more c.header_of_bytes.ensures a c.args.piece.now c.pack.new.self c.pack.new.records
    c.requires.can c.in_ok-pack.ensures.ok (sym c.in_ok-pack.ensures.told) in
    record {
      shape = over.shape;
      asked = over.asked;
      stop = over.stop;
      running = over.running;
      workers = over.workers;
      taken = λ bytes taken. over.taken (bytes ++ c.args.piece.now) (read.taken bytes taken);
      stopped = tt;
    }
