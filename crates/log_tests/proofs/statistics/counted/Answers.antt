use Rattle.std.proofs.Common.{◌≡◌, sym, subst, arith}
use Rattle.lf_rules.specs.Numbers.{bank_numbers, IsWhole}
use Rattle.lf_logs.specs.Lists.{lists_of}
use Rattle.log_tests.proofs.statistics.counted.Goals as goal

pub stats-requires-clause-whole : goal.stats-requires-clause-whole
stats-requires-clause-whole c bank h =
    let first : bank ≡ 0 = omega (arith, c.shape.ensures.banks) in
    subst (λ b. IsWhole (bank_numbers (lists_of c.in_ok-logs.logs) b)) (sym first) c.in-Ok.ensures.whole
