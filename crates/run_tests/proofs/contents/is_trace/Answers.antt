use Rattle.std.proofs.Common.{[], refl}
use Rattle.run_tests.proofs.contents.is_trace.Goals as goal

pub returns-in-Ok-finish : goal.returns-in-Ok-finish
returns-in-Ok-finish c _ =
    let header = c.in-Ok-finish.field-0 in
    let read = c.in-Ok.ensures.ok [] [] [] c.new-reader.ensures in
    record {
      header = header;
      memory = c.feed.new.self.memory;
      records = c.feed.new.self.records;
      trace = (c.in-Ok-finish.ensures.trace c.args.bytes.now [] [] read header).0 refl;
    }
