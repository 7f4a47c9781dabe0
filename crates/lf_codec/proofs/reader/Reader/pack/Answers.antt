use Rattle.std.proofs.Common.{ap, arith}
use Rattle.lf_codec.specs.Reading.{Reading}
use Rattle.lf_codec.specs.Reader.{with_records}
use Rattle.lf_codec.proofs.Refused.{packed, packed_faults, packed_kept, packed_well, packed_refused}
use Rattle.lf_codec.proofs.reader.Reader.pack.Goals as goal

pub returns-clause-kept : goal.returns-clause-kept
returns-clause-kept c =
    let old = with_records c.args.records.now.records c.args.self.now in
    let new = with_records c.pack_piece.new.records.records c.pack_piece.new.self in
    packed_kept old new c.args.piece.now c.pack_piece.ensures.read

pub returns-clause-ok : goal.returns-clause-ok
returns-clause-ok c =
    let old = with_records c.args.records.now.records c.args.self.now in
    let new = with_records c.pack_piece.new.records.records c.pack_piece.new.self in
    packed_well old new c.args.piece.now c.pack_piece.result (λ i. omega (arith, c.type_inv.piece i))
    c.pack_piece.ensures.told c.pack_piece.ensures.read

pub returns-clause-pieces : goal.returns-clause-pieces
returns-clause-pieces c fed memory taken has =
    let old = with_records c.args.records.now.records c.args.self.now in
    let new = with_records c.pack_piece.new.records.records c.pack_piece.new.self in
    packed old new fed c.args.piece.now memory taken (λ i. omega (arith, c.type_inv.piece i))
    c.pack_piece.ensures.read has

pub returns-clause-faults : goal.returns-clause-faults
returns-clause-faults c fed memory taken has =
    let old = with_records c.args.records.now.records c.args.self.now in
    let new = with_records c.pack_piece.new.records.records c.pack_piece.new.self in
    packed_faults old new fed c.args.piece.now memory taken c.pack_piece.result c.pack_piece.ensures.told has
    (packed old new fed c.args.piece.now memory taken (λ i. omega (arith, c.type_inv.piece i))
    c.pack_piece.ensures.read has)

pub returns-clause-refused : goal.returns-clause-refused
returns-clause-refused c =
    let old = with_records c.args.records.now.records c.args.self.now in
    let new = with_records c.pack_piece.new.records.records c.pack_piece.new.self in
    packed_refused old new c.args.piece.now c.pack_piece.result (λ i. omega (arith, c.type_inv.piece i))
    c.pack_piece.ensures.told
    (λ some. ap (λ (r : Reading). r.fault) (c.pack_piece.ensures.failed some).0) c.pack_piece.ensures.read
