use Rattle.std.proofs.Common.{◌≡◌, Some, sym, ◌∙◌, refl}
use Rattle.lf_codec.specs.Reading.{header_of}
use Rattle.explain_why.proofs.SoFar.{packed}
use Rattle.explain_why.proofs.packing.packed_so_far.Goals as goal

pub returns : goal.returns
returns c =
    let bytes = c.args.bytes.now in
    let memory = c.in_ok-memory.memory.items in
    let records = c.in_ok-memory.records.records in
    let all = c.in_ok-memory.ensures in
    let there : header_of bytes ≡ Some c.in-Some.header =
    sym (c.header.ensures.read bytes memory records all.read) ∙ c.in-Some.is in
    packed c.read_so_far.ensures bytes c.requires c.in-Some.header there _ memory records all _ refl refl
    (c.first_record_at.ensures memory records)

pub unreachable-requires : goal.unreachable-requires
unreachable-requires c =
    let there = c.header.ensures.read c.args.bytes.now c.in_ok-memory.memory.items c.in_ok-memory.records.records
    c.in_ok-memory.ensures.read in
    let read_is = c.requires.read in
    cc
