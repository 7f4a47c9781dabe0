use Rattle.std.proofs.Common.{rules}
use Rattle.lf_mshr.proofs.explicit.ExplicitOrganisation.fresh_fault.Goals as goal

pub returns-then-from-file : goal.returns-then-from-file
returns-then-from-file g c = search rules

pub returns-then-not-is_free : goal.returns-then-not-is_free
returns-then-not-is_free g c = search rules

pub returns : goal.returns
returns g c = search rules
