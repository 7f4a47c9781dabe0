use Rattle.std.proofs.Common.{◌≡◌, ◌<◌, ℕ, [], length, get_or}
use Rattle.std.specs.Prelude.{IsSome, IsTrue}
use Rattle.lf_rules.specs.Address.{flat_memory}
use Rattle.lf_replay.specs.Bytes.{bank_part}
use Rattle.lf_verdict.specs.declared.session.standing.bank_judge.BankJudge.{BankJudge}
use Rattle.lf_verdict.specs.Standing.{IsBankSettled}
use Rattle.lf_verdict.proofs.session.standing.new.bank_judges.Given as goal

abbrev pub invariant-loop-bank : goal.invariant-loop-bank
invariant-loop-bank l = (length l.judges.items ≡ l.bank) × ((bank : ℕ) (d : BankJudge) → bank < l.bank
    → IsBankSettled l.shape (bank_part l.shape bank (flat_memory l.memory.items)) bank [] []
    (get_or l.judges.items bank d) × (IsTrue l.counted → IsSome (get_or l.judges.items bank d).count))
