use Rattle.std.proofs.Common.{ℕ, ◌+◌, ◌<◌, ◌^◌, List, Option, refl, sym, ◌∙◌, arith}
use Rattle.lf_codec.specs.Lengths.{bytes_len}
use Rattle.explain_lines.specs.Marks.{told_by}
use Rattle.explain_why.proofs.Incomplete.{request_waits, is_not_complete}
use Rattle.explain_why.proofs.not_complete.not_complete.Goals as goal

pub packed_in-requires : goal.packed_in-requires
packed_in-requires c =
    let is = c.requires.incomplete in
    record { header = is.trace.header; memory = is.memory; records = is.trace.records; trace = is.trace.trace }

pub unreachable-requires : goal.unreachable-requires
unreachable-requires c =
    request_waits c.args.shape.now c.args.bytes.now c.args.request c.requires.incomplete c.in_ok-records.field-0
    c.in_ok-records.ensures (sym c.waiting_request.ensures.request ∙ c.in_default.is)

pub returns : goal.returns
returns c =
    let packing = c.in_ok-records.field-0 in
    let has = c.in_ok-records.ensures in
    let time : ℕ → ℕ → Option (List ℕ) = told_by c.args.asked.now.times in
    let fits : packing.start + bytes_len packing.records.records < 2 ^ 64 = omega (arith, has.ends) in
    is_not_complete c.args.shape.now c.args.bytes.now c.args.request c.requires.incomplete packing has time
    c.args.asked.now.most _ refl refl (c.in_ok-marks.ensures fits)
    (sym c.waiting_request.ensures.request ∙ c.in-Some.is) c.in_ok-oldest.ensures
