use Rattle.std.proofs.Common.{refl}
use Rattle.text_dump.specs.Chosen.{marked_line}
use Rattle.text_dump.proofs.Kept.{pushed_header}
use Rattle.text_dump.proofs.chosen.Chosen.add_header.Goals as goal

pub returns-clause-holds : goal.returns-clause-holds
returns-clause-holds c out head h =
    pushed_header c.args.self.now _ out head (marked_line c.args.header.now) h refl refl c.in_ok-put_marked.ensures
