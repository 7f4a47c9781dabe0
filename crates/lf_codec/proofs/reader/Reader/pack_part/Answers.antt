use Rattle.std.proofs.Common.{ap, []}
use Rattle.std.proofs.lemmas.Result.{err_from_is_err_and}
use Rattle.lf_codec.specs.Reading.{Reading, with_front}
use Rattle.lf_codec.specs.Reader.{with_records}
use Rattle.lf_codec.specs.Packed.{PackedRecords}
use Rattle.lf_codec.proofs.Packing.{part_fails_in_front, part_moved, part_cut}
use Rattle.lf_codec.proofs.reader.Reader.pack_part.Goals as goal

pub returns-in_err-n-clause-takes : goal.returns-in_err-n-clause-takes
returns-in_err-n-clause-takes c =
    let p = err_from_is_err_and c.from_residual.result c.from_residual.ensures.1 in
    rw (p.1, p.2) (part_fails_in_front c.args.records.now.records c.args.self.now c.take_next.new.self
    c.args.bytes.now c.in_err-n.field-0.0 c.in_err-n.ensures.takes)

pub returns-in_err-pack_waiting-clause-takes : goal.returns-in_err-pack_waiting-clause-takes
returns-in_err-pack_waiting-clause-takes c =
    let p = err_from_is_err_and c.from_residual-in_err-pack_waiting.result
    c.from_residual-in_err-pack_waiting.ensures.1 in
    let mid : Reading = c.take_next.new.self in
    let cut = c.in_err-pack_waiting.ensures.moved in
    rw (p.1, p.2) (part_cut c.args.records.now.records c.args.self.now mid c.args.bytes.now c.in_ok-n.n
    c.in_err-pack_waiting.field-0.0
    (with_records c.take_header.new.self.records mid) (with_records c.pack_waiting.new.records.records
    c.pack_waiting.new.self) c.in_ok-n.ensures.takes
    (ap (λ (v : PackedRecords). with_front [] v.records mid) c.take_header.ensures.rest) cut.0 cut.2)

pub returns-clause-takes : goal.returns-clause-takes
returns-clause-takes c =
    let mid : Reading = c.take_next.new.self in
    part_moved c.args.records.now.records c.args.self.now mid c.args.bytes.now c.in_ok-n.n
    (with_records c.take_header.new.self.records mid) (with_records c.pack_waiting.new.records.records
    c.pack_waiting.new.self) c.in_ok-n.ensures.takes
    (ap (λ (v : PackedRecords). with_front [] v.records mid) c.take_header.ensures.rest)
    c.in_ok-pack_waiting.ensures.moved
