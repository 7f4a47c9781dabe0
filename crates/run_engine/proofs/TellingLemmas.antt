-- What was told by what went out.
use Rattle.std.proofs.Common.{◌≡◌, ◌≢◌, ℕ, ◌<◌, List, Result, Ok, Err, refl}
use Rattle.lf_verdict.specs.declared.session.conclusion.Conclusion.{Conclusion}
use Rattle.run_stream.specs.Account.{Account, WentOut}
use Rattle.run_engine.specs.declared.fault.RunFault.{RunFault}
use Rattle.run_engine.specs.declared.fault.RunFault.TheVariants.{Write}
use Rattle.run_engine.specs.Run.{Follows, IsTextFor, IsBeginning, IsTold}

module _ (writer writer' : Account) (came_to answer : Result Conclusion RunFault)
    (IsDue : Conclusion → List ℕ → Type 0) (lost : List ℕ) where
  -- The text went out.
  pub told_whole : (text : List ℕ) → answer ≢ Err Write → ¬ (0 < writer'.failures) → Follows came_to answer
      → IsTextFor IsDue lost answer text → WentOut writer writer' text → IsTold writer writer' came_to IsDue lost answer
  told_whole text other fine follows due out = record {
    write = (λ is. absurd (other is), λ failed. absurd (fine failed));
    follows = λ _. follows;
    written = λ _. (text, due, out);
    prefix = λ is. absurd (other is);
  }

  -- A write failed.
  pub told_in_part : 0 < writer'.failures → answer ≡ Err Write → IsBeginning writer writer' came_to IsDue lost →
      IsTold writer writer' came_to IsDue lost answer
  told_in_part failed is begins = record {
    write = (λ _. failed, λ _. is);
    follows = λ other. absurd (other is);
    written = λ other. absurd (other is);
    prefix = λ _. begins;
  }
