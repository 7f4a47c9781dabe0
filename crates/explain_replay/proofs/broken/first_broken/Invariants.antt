use Rattle.std.proofs.Common.{◌≡◌, take, drop}
use Rattle.std.specs.List.{AllByRecursion}
use Rattle.lf_rules.specs.Address.{flat_memory}
use Rattle.lf_rules.specs.Fits.{Fits}
use Rattle.bank_state.specs.Bytes.{bank_part}
use Rattle.lf_replay.specs.Step.{IsStepAfter}
use Rattle.explain_history.specs.BankOrder.{records_at}
use Rattle.explain_replay.proofs.broken.first_broken.Given as goal

abbrev pub invariant-loop-i : goal.invariant-loop-i
invariant-loop-i l = record {
  stands : IsStepAfter l.step l.shape (bank_part l.shape l.bank (flat_memory l.memory.items)) l.bank
      (records_at l.records.records (take l.i l.places));
  fit : AllByRecursion (Fits l.shape) (records_at l.records.records (drop l.i l.places));
  named : AllByRecursion (λ r. r.bank ≡ l.bank) (records_at l.records.records (drop l.i l.places));
}
