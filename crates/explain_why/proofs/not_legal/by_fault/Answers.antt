use Rattle.std.proofs.Common.{ℕ, ◌+◌, ◌<◌, ◌^◌, List, Option, refl, arith}
use Rattle.lf_codec.specs.Lengths.{bytes_len}
use Rattle.explain_lines.specs.Marks.{told_by}
use Rattle.explain_why.proofs.Records.{packing_fits, first_bank, is_not_legal}
use Rattle.explain_why.proofs.not_legal.by_fault.Goals as goal

pub packed_in-requires : goal.packed_in-requires
packed_in-requires c =
    let is = c.requires.trace in
    record { header = is.trace.header; memory = is.memory; records = is.trace.records; trace = is.trace.trace }

pub first_cause-requires-clause-bank : goal.first_cause-requires-clause-bank
first_cause-requires-clause-bank c =
    first_bank c.args.shape.now c.args.bytes.now c.args.earliest.now c.requires.earliest

pub first_cause-requires-clause-fit : goal.first_cause-requires-clause-fit
first_cause-requires-clause-fit c =
    packing_fits c.args.shape.now c.args.bytes.now c.requires.trace c.in_ok-memory.field-0 c.in_ok-memory.ensures

pub cause_of-requires-clause-fit : goal.cause_of-requires-clause-fit
cause_of-requires-clause-fit c =
    packing_fits c.args.shape.now c.args.bytes.now c.requires.trace c.in_ok-memory.field-0 c.in_ok-memory.ensures

pub returns : goal.returns
returns c =
    let packing = c.in_ok-memory.field-0 in
    let has = c.in_ok-memory.ensures in
    let time : ℕ → ℕ → Option (List ℕ) = told_by c.args.asked.now.times in
    let fits : packing.start + bytes_len packing.records.records < 2 ^ 64 = omega (arith, has.ends) in
    is_not_legal c.args.shape.now c.args.bytes.now c.requires.trace packing has time c.args.asked.now.most
    c.args.fault.now c.args.earliest.now _ c.requires.earliest refl (c.in_ok-marks.ensures fits) c.in_ok-fault.ensures
    c.upon_of.ensures c.in_ok-first.ensures
