use Rattle.std.proofs.Common.{rules}
use Rattle.lf_codec.proofs.reader.Reader.pending.Goals as goal

pub returns-clause-now : goal.returns-clause-now
returns-clause-now c = search rules

pub returns-clause-few : goal.returns-clause-few
returns-clause-few c = search rules

pub returns-clause-read : goal.returns-clause-read
returns-clause-read c = search rules
