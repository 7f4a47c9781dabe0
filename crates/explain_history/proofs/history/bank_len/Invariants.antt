use Rattle.std.proofs.Common.{◌≡◌, ◌+◌, ◌≤◌, length, drop}
use Rattle.lf_rules.specs.Run.{of_bank}
use Rattle.explain_history.proofs.history.bank_len.Given as goal

abbrev pub invariant-loop-place : goal.invariant-loop-place
invariant-loop-place l = record {
  few : l.len ≤ l.place;
  counted : l.len + length (of_bank l.bank (drop l.place l.records.records))
      ≡ length (of_bank l.bank l.records.records);
}
