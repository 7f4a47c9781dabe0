use Rattle.std.proofs.Common.{rules, ◌≢◌, refl}
use Rattle.lf_verdict.specs.declared.answer.Refusal.TheVariants.{Memory}
use Rattle.lf_codec.specs.Reader.{fault_in}
use Rattle.run_engine.proofs.GatheringLemmas.{refused_stands}
use Rattle.run_engine.proofs.judging.has_fault.Goals as goal
use Rattle.run_engine.proofs.judging.has_fault.Goals.{in-Memory, in_default}

pub returns-after-fault : goal.returns-after-fault
returns-after-fault c = elim c.match-fault.branch [
  | in-Memory w ↦ rw w.result-is (record { fine = λ e. absurd (cc); told = λ _ _ _. tt })
  | in_default w ↦
      let other : fault_in c.in-Err.told ≢ Memory = search rules in
      rw w.result-is (record {
        fine = λ e. absurd (cc);
        told = λ bytes _ known.
            let stands = rw c.in-Err.is at known in
            (λ _. refused_stands c.fault_so_far.ensures.other bytes (fault_in c.in-Err.told) other stands, λ _. refl);
      })
]
