-- What a session answered to a piece, by what stopped it before and after.
use Rattle.std.proofs.Common.{◌≡◌, ℕ, List, ◌++◌, Option, Some, None, Ok, Err, refl, sym, ap, ◌∙◌, subst, arith}
use Rattle.std.specs.Prelude.{IfSome, IsSome}
use Rattle.lf_codec.specs.declared.fault.Told.{Told}
use Rattle.lf_codec.specs.declared.fault.Told.TheVariants.{Fault, Failed}
use Rattle.lf_codec.specs.Reader.{fault_in}
use Rattle.lf_codec.specs.Reading.{fault_so_far}
use Rattle.lf_verdict.specs.declared.answer.Refusal.{Refusal}
use Rattle.lf_verdict.specs.declared.answer.Outcome.TheVariants.{Refused}
use Rattle.lf_verdict.specs.declared.stop.Stop.{Stop}
use Rattle.lf_verdict.specs.Seen.{Seen}
use Rattle.lf_verdict.specs.Session.{IsRefusalSoFar, refusal_of, stop_told}
use Rattle.run_engine.specs.Line.{outcome_text}
use Rattle.library_c.specs.declared.answer.Answer.{Answer}
use Rattle.library_c.specs.Answers.{IsSilent, IsLine, IsFedMore, IsFedTold, IsStopTold, feed_status}

went_on : (before after : Option Stop) → Ok tt ≡ stop_told before after → after ≡ None
went_on None None is = refl
went_on None (Some stop) is = absurd cc
went_on (Some stop) after is = absurd cc

was_stopped : (before after : Option Stop) (told : Told Refusal) → Err told ≡ stop_told before after
    → (IsSome before → after ≡ before)
    → (stop : Stop) × (after ≡ Some stop) × (refusal_of stop ≡ fault_in told)
was_stopped None None told is stays = absurd cc
was_stopped None (Some stop) told is stays =
    let same : told ≡ Fault (refusal_of stop) = cc in (stop, refl, sym (ap fault_in same))
was_stopped (Some stop) after told is stays =
    let same : told ≡ Failed (refusal_of stop) = cc in (stop, stays refl, sym (ap fault_in same))

module _ (piece : List ℕ) (s s' : Seen) (shape : s'.shape ≡ s.shape) (asked : s'.asked ≡ s.asked)
    (fed : s'.fed ≡ s.fed ++ piece) (stays : IsSome s.stop → s'.stop ≡ s.stop) where
  abbrev HasReason : Option Stop → Type 0
  HasReason stop = IfSome stop (λ stop. IsRefusalSoFar s'.fed (refusal_of stop))

  pub fed_well : Ok tt ≡ stop_told s.stop s'.stop → fault_so_far s'.fed ≡ None → IsFedMore piece s s' 0
  fed_well is fine =
      let none = went_on s.stop s'.stop is in
      record {
        shape = shape;
        asked = asked;
        fed = fed;
        status_is = sym (ap feed_status none);
        fine = λ _. fine;
        reason = subst HasReason (sym none) tt;
        stays = stays;
      }

  module _ (told : Told Refusal) (is : Err told ≡ stop_told s.stop s'.stop)
      (refused : IsRefusalSoFar s'.fed (fault_in told)) where
    pub fed_badly : IsFedMore piece s s' 2
    fed_badly =
        let stop = was_stopped s.stop s'.stop told is stays in
        record {
          shape = shape;
          asked = asked;
          fed = fed;
          status_is = sym (ap feed_status stop.1);
          fine = λ bad. absurd (omega (arith, bad));
          reason = subst HasReason (sym stop.1) (subst (IsRefusalSoFar s'.fed) (sym stop.2) refused);
          stays = stays;
        }

    pub told_why : (refusal : Refusal) → refusal ≡ fault_in told → (answer : Answer) (line line' : List ℕ)
        → IsLine 2 (outcome_text (Refused refusal)) answer line line' → IsFedTold piece s s' answer line line'
    told_why refusal same answer line line' tells =
        let stop = was_stopped s.stop s'.stop told is stays in
        record {
          fed = subst (IsFedMore piece s s') (sym tells.status_is) fed_badly;
          told = subst (λ (o : Option Stop). IsStopTold o answer line line') (sym stop.1)
              (subst (λ (r : Refusal). IsLine 2 (outcome_text (Refused r)) answer line line') (same ∙ sym stop.2)
              tells);
        }

  pub told_nothing : Ok tt ≡ stop_told s.stop s'.stop → fault_so_far s'.fed ≡ None → (answer : Answer)
      (line line' : List ℕ) → IsSilent 0 answer line line' → IsFedTold piece s s' answer line line'
  told_nothing is fine answer line line' silent = record {
    fed = subst (IsFedMore piece s s') (sym silent.status_is) (fed_well is fine);
    told = subst (λ (o : Option Stop). IsStopTold o answer line line') (sym (went_on s.stop s'.stop is)) silent;
  }
