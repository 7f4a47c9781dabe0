use Rattle.std.proofs.Common.{◌≡◌, length}
use Rattle.lf_rules.specs.Run.{of_bank}
use Rattle.lf_logs.proofs.Joined.{of_first}
use Rattle.lf_logs.proofs.order.bank_len.Given as goal

abbrev pub invariant-loop-log : goal.invariant-loop-log
invariant-loop-log g l = l.len ≡ length (of_bank l.bank (of_first l.log (g.L.LogRecords.lists l.logs)))
