use Rattle.std.proofs.Common.{rules}
use Rattle.lf_codec.specs.Checks.{end_checks}
use Rattle.lf_codec.proofs.checks.check_end.Goals as goal

pub returns-then-u32_at-count : goal.returns-then-u32_at-count
unfolding end_checks
returns-then-u32_at-count c = search rules

pub returns : goal.returns
unfolding end_checks
returns c = search rules
