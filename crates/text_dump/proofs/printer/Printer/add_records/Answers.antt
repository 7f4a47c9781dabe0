use Rattle.std.proofs.Common.{ap}
use Rattle.lf_codec.specs.Reading.{Reading}
use Rattle.text_dump.proofs.Taken.{both_added}
use Rattle.text_dump.proofs.printer.Printer.add_records.Goals as goal

pub returns-clause-holds : goal.returns-clause-holds
returns-clause-holds c out head lines h =
    let first = c.in_ok-self.ensures in
    let last = c.in_ok-self-2.ensures in
    both_added _ out head lines c.args.chosen.now.choice _ c.args.header.now c.args.self.now.reader.memory
    c.args.self.now.reader.records _ c.args.self.now.offset _
    first.choice (ap (λ (q : Reading). q.records) first.taken) first.end
    (last.holds out head _ (first.holds out head lines h))
