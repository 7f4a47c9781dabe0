use Rattle.std.proofs.Common.{refl}
use Rattle.text_dump.proofs.Kept.{pushed_at_once}
use Rattle.text_dump.proofs.chosen.Chosen.push.Goals as goal

pub returns-in_ok-put_line-in-None-clause-holds : goal.returns-in_ok-put_line-in-None-clause-holds
returns-in_ok-put_line-in-None-clause-holds c out head lines h =
    pushed_at_once c.args.self.now _ out head lines _ h c.in-None.is refl refl c.in_ok-put_line-in-None.ensures
