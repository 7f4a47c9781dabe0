use Rattle.lf_codec.proofs.Ends.{more_is_trailing, less_is_truncated}
use Rattle.lf_codec.proofs.laws.end_of_a_trace.Goals as goal

pub returns-clause-more : goal.returns-clause-more
returns-clause-more c = more_is_trailing

pub returns-clause-less : goal.returns-clause-less
returns-clause-less c = less_is_truncated
