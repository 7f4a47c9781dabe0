use Rattle.std.proofs.Common.{◌≡◌, Ok, refl}
use Rattle.explain_why.proofs.Taken.{all_taken, is_at_end}
use Rattle.explain_why.proofs.parts.trace_in.Goals as goal

pub returns : goal.returns
returns c =
    let bytes = c.args.bytes.now in
    let header = c.in-Ok.header in
    let parts = c.in_ok-memory.field-0 in
    let all = c.in_ok-memory.ensures in
    let trace = (c.in-Ok.ensures.trace bytes parts.memory.items parts.records.items all.read header).0 refl in
    all_taken bytes header parts.memory.items _ parts.records.items _ trace all.no_memory all.no_records

pub unreachable-requires : goal.unreachable-requires
unreachable-requires c =
    let bytes = c.args.bytes.now in
    let parts = c.in_ok-memory.field-0 in
    let read = c.in_ok-memory.ensures.read in
    let whole : c.finish.result ≡ Ok c.requires.header =
    (c.finish.ensures.trace bytes parts.memory.items parts.records.items read c.requires.header).1
    (is_at_end bytes c.requires _ parts.memory.items parts.records.items read) in
    cc
