use Rattle.std.proofs.Common.{◌≡◌, sym, subst, arith}
use Rattle.lf_rules.specs.Numbers.{bank_numbers, IsWhole}
use Rattle.lf_logs.specs.Lists.{lists_of}
use Rattle.log_tests.proofs.logs_of_traces.ordered.Goals as goal

pub bank_records-requires : goal.bank_records-requires
bank_records-requires c = record {
  whole = λ bank h.
      let first : bank ≡ 0 = omega arith in
      subst (λ b. IsWhole (bank_numbers (lists_of c.args.logs) b)) (sym first) c.in-Ok.ensures.whole;
}
