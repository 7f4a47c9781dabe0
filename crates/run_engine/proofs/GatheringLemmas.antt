-- Laws of the bytes that were fed to a session.
use Rattle.std.proofs.Common.{◌≡◌, ◌≢◌, ℕ, List, [], Option, None, Some, Result, Ok, Err, sym, ◌∙◌, refl, inl, inr}
use Rattle.std.proofs.Common.{Bool, false, true, ⊎_elim}
use Rattle.std.specs.Prelude.{◌↔◌, IsTrue}
use Rattle.lf_codec.specs.Laws.{AreBytes, FaultsSoFarAreNotTruncated}
use Rattle.lf_codec.specs.Reading.{fault_so_far}
use Rattle.lf_rules.specs.declared.shape.Shape.{Shape}
use Rattle.lf_verdict.specs.declared.answer.Refusal.{Refusal}
use Rattle.lf_verdict.specs.declared.answer.Refusal.TheVariants.{Workers, Config, Format, Header, Memory, Thread}
use Rattle.lf_verdict.specs.declared.stop.Stop.{Stop}
use Rattle.lf_verdict.specs.Named.{NoneBrokeSoFar}
use Rattle.lf_verdict.specs.Session.{IsRefusalSoFar, stop_told}
use Rattle.run_stream.specs.Account.{Account}
use Rattle.run_stream.specs.Gathered.{IsAllRead}
use Rattle.run_engine.specs.declared.ask.Needs.{Needs}
use Rattle.run_engine.specs.Gathered.{HasFault, HasBroken, HasEnough}

-- Where no fault so far stands in the bytes, none stands whatever comes after them.
pub none_stands : FaultsSoFarAreNotTruncated → (bytes : List ℕ) → fault_so_far bytes ≡ None → ¬ HasFault bytes
none_stands so_far bytes none (fault, is, other) = let bad : None ≡ Some fault =
    sym none ∙ (so_far bytes fault).1 (is, other) in cc

-- a refusal other than out of memory is a fault that stands
pub refused_stands : FaultsSoFarAreNotTruncated → (bytes : List ℕ) (r : Refusal) → r ≢ Memory →
    IsRefusalSoFar bytes r → HasFault bytes
refused_stands so_far bytes (Format fault) other is = let (whole, not) = (so_far bytes fault).0 is in
    (fault, whole, not)
refused_stands so_far bytes (Workers n) other is = absurd is
refused_stands so_far bytes (Config f) other is = absurd is
refused_stands so_far bytes (Header f) other is = absurd is
refused_stands so_far bytes Memory other is = absurd (other refl)
refused_stands so_far bytes Thread other is = absurd is

-- A session that answers that all is well was not stopped.
pub not_stopped : (old new : Option Stop) → Ok tt ≡ stop_told old new → new ≡ None
not_stopped None None told = refl
not_stopped None (Some stop) told = absurd (cc)
not_stopped (Some stop) new told = absurd (cc)

-- No bytes are not enough.
pub none_wanted : FaultsSoFarAreNotTruncated → (needs : Needs) (shape : Shape) → HasEnough needs shape [] → ⊥
unfolding HasEnough
none_wanted so_far needs shape (inl fault) = none_stands so_far [] refl fault
none_wanted so_far needs shape (inr broken) = broken.1 (record {
  header = λ header read. absurd (cc);
  parts = λ begun. let read = begun.read in absurd (cc);
})

-- A run that does not end early ends by a fault alone.
pub fault_of : (needs : Needs) (shape : Shape) (bytes : List ℕ) → needs.early ≡ false → HasEnough needs shape bytes →
    HasFault bytes
unfolding HasEnough
fault_of needs shape bytes late (inl fault) = fault
fault_of needs shape bytes late (inr broken) = let bad : true ≡ false = sym broken.0 ∙ late in absurd (cc)

pub enough_by : (needs : Needs) (shape : Shape) (bytes : List ℕ) → HasFault bytes → HasEnough needs shape bytes
unfolding HasEnough
enough_by needs shape bytes fault = inl fault

-- Where no fault stands, what broke alone is enough.
pub enough_unless : (needs : Needs) (shape : Shape) (bytes : List ℕ) (b : Bool) → (HasFault bytes → ⊥)
    → (IsTrue b ↔ ((needs.early ≡ true) × HasBroken shape bytes)) → (IsTrue b ↔ HasEnough needs shape bytes)
unfolding HasEnough
enough_unless needs shape bytes b sound broken = (
  λ told. inr (broken.0 told),
  λ enough. ⊎_elim
      (λ fault. absurd (sound fault)) (λ both. broken.1 both) enough,
)
