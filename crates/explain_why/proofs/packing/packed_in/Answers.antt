use Rattle.std.proofs.Common.{◌≡◌, Ok, refl}
use Rattle.explain_why.proofs.Taken.{all_taken, is_at_end}
use Rattle.explain_why.proofs.Within.{is_packing}
use Rattle.explain_why.proofs.packing.packed_in.Goals as goal

pub returns : goal.returns
returns c =
    let bytes = c.args.bytes.now in
    let header = c.in-Ok.header in
    let memory = c.in_ok-memory.memory.items in
    let records = c.in_ok-memory.records.records in
    let all = c.in_ok-memory.ensures in
    let trace = all_taken bytes header memory _ records _
    ((c.in-Ok.ensures.trace bytes memory records all.read header).0 refl) all.no_memory all.no_records in
    is_packing bytes header _ trace (c.first_record_at.ensures memory records trace.fits)

pub unreachable-requires : goal.unreachable-requires
unreachable-requires c =
    let bytes = c.args.bytes.now in
    let memory = c.in_ok-memory.memory.items in
    let records = c.in_ok-memory.records.records in
    let read = c.in_ok-memory.ensures.read in
    let whole : c.finish.result ≡ Ok c.requires.header =
    (c.finish.ensures.trace bytes memory records read c.requires.header).1
    (is_at_end bytes c.requires _ memory records read) in
    cc
