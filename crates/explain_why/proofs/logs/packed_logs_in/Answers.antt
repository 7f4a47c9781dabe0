use Rattle.std.proofs.lemmas.Result.{IfOk-weaker}
use Rattle.explain_why.proofs.Split.{packed_below, packed_few, packed_lists}
use Rattle.explain_why.proofs.logs.packed_logs_in.Goals as goal

pub packed_in-requires : goal.packed_in-requires
packed_in-requires c =
    let is = c.requires.countable in
    record { header = is.trace.header; memory = is.memory; records = is.trace.records; trace = is.trace.trace }

pub split-requires-clause-logs : goal.split-requires-clause-logs
split-requires-clause-logs c =
    let packing = c.in_ok-packing.ensures in
    packed_below c.args.shape.now c.args.bytes.now c.requires.countable c.one_trace.ensures packing.header
    c.in_ok-packing.packing.memory.items c.in_ok-packing.packing.records.records packing.trace

pub split-requires-clause-few : goal.split-requires-clause-few
split-requires-clause-few c =
    let packing = c.in_ok-packing.ensures in
    packed_few c.args.shape.now c.args.bytes.now c.requires.countable c.one_trace.ensures packing.header
    c.in_ok-packing.packing.memory.items c.in_ok-packing.packing.records.records packing.trace c.requires.in_range

pub returns : goal.returns
returns c =
    let packing = c.in_ok-packing.ensures in
    IfOk-weaker c.split.result _ _
    (packed_lists c.args.shape.now c.args.bytes.now c.requires.countable c.one_trace.ensures packing.header
    c.in_ok-packing.packing.memory.items c.in_ok-packing.packing.records.records packing.trace) c.split.ensures
