use Rattle.std.proofs.Common.{take}
use Rattle.lf_replay.specs.Step.{IsBankOrder}
use Rattle.bank_tests.proofs.judged.is_bank_order.Given as goal

abbrev pub invariant-loop-at : goal.invariant-loop-at
invariant-loop-at l = IsBankOrder l.shape l.bank (take l.at l.records)
