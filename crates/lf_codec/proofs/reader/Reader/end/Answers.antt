use Rattle.std.proofs.Common.{rules}
use Rattle.lf_codec.proofs.reader.Reader.end.Goals as goal

pub returns-in-Ended-clause-answer : goal.returns-in-Ended-clause-answer
returns-in-Ended-clause-answer c = search rules

pub returns-in-Ended-clause-after : goal.returns-in-Ended-clause-after
returns-in-Ended-clause-after c = search rules
