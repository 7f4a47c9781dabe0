-- The bank's blocks of the memory do for its records, and the whole memory does.
use Rattle.lf_rules.specs.Outcomes.{first_local}
use Rattle.lf_rules.proofs.Locality.{SameBank-sym}
use Rattle.bank_state.specs.Bytes.{bank_part}
use Rattle.lf_replay.specs.WholeMemory.{BankPartsRunAlike, BankPartsBreakAlike}
use Rattle.lf_replay.proofs.Runs.{part_does, run_same, breaks_same}

pub run_alike : BankPartsRunAlike
run_alike shape memory bank rs are =
    let part = first_local (bank_part shape bank memory) in
    let whole = first_local memory in (
      run_same shape bank part whole rs are.fit are.named (λ port. tt) (part_does shape bank memory),
      run_same shape bank whole part rs are.fit are.named (λ port. tt) (SameBank-sym (part_does shape bank memory)),
    )

pub break_alike : BankPartsBreakAlike
break_alike shape memory bank rs are n rule =
    let part = first_local (bank_part shape bank memory) in
    let whole = first_local memory in (
      breaks_same shape bank part whole rs n rule are.fit are.named (λ port. tt) (part_does shape bank memory),
      breaks_same shape bank whole part rs n rule are.fit are.named (λ port. tt)
          (SameBank-sym (part_does shape bank memory)),
    )
