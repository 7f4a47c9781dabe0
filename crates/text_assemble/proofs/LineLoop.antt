-- Lines that are added one after another, as a loop does.
use Rattle.std.proofs.Common.{◌≡◌, ◌⊎◌, inl, inr, ℕ, ◌+◌, List, [], ◌∷◌, Result, Ok, Err, sym, ap, ◌∙◌}
use Rattle.lf_codec.specs.Reading.{trace_fault}
use Rattle.text_parse.specs.declared.defaults.Defaults.{Defaults}
use Rattle.text_assemble.specs.declared.due.Due.{Due}
use Rattle.text_assemble.specs.declared.fault.AssembleCause.{AssembleCause}
use Rattle.text_assemble.specs.declared.fault.AssembleCause.TheVariants.{Memory}
use Rattle.text_assemble.specs.declared.fault.AssembleFault.{AssembleFault}
use Rattle.text_assemble.specs.Assembly.{added, finished, or_fault, ended, assembled}

module _ (now : Due) (defaults : Defaults) (bytes : List ℕ) (number : ℕ) (text : List ℕ) (texts lines : List (List ℕ))
    (total : Result (List ℕ) AssembleFault) where
  pub text_added : (next : Due) (banks : Defaults) (after : List ℕ) →
      added now defaults bytes text ≡ Ok (next, banks, after)
      → assembled now defaults bytes number (text ∷ texts) ≡ assembled next banks after (number + 1) texts
  unfolding assembled
  text_added next banks after one =
      ap (λ (r : Result (Due × Defaults × List ℕ) AssembleCause). or_fault (number + 1) r
      (λ next. assembled next.0 next.1 next.2 (number + 1) texts)) one

  text_fails : (cause : AssembleCause) → added now defaults bytes text ≡ Err cause
      → assembled now defaults bytes number (text ∷ texts) ≡ Err (record { line = number + 1; cause = cause })
  unfolding assembled
  text_fails cause one =
      ap (λ (r : Result (Due × Defaults × List ℕ) AssembleCause). or_fault (number + 1) r
      (λ next. assembled next.0 next.1 next.2 (number + 1) texts)) one

  pub goes_on : (next : Due) (banks : Defaults) (after : List ℕ) → lines ≡ text ∷ texts →
      added now defaults bytes text ≡ Ok (next, banks, after)
      → assembled now defaults bytes number lines ≡ total → assembled next banks after (number + 1) texts ≡ total
  goes_on next banks after is one so_far = sym (text_added next banks after one)
      ∙ sym (ap (assembled now defaults bytes number) is) ∙ so_far

  pub stops : (cause : AssembleCause) → lines ≡ text ∷ texts →
      (cause ≡ Memory) ⊎ (added now defaults bytes text ≡ Err cause)
      → assembled now defaults bytes number lines ≡ total →
      (cause ≡ Memory) ⊎ (total ≡ Err (record { line = number + 1; cause = cause }))
  stops cause is (inl out) so_far = inl out
  stops cause is (inr one) so_far = inr (sym so_far ∙ ap (assembled now defaults bytes number) is ∙ text_fails cause
      one)

pub is_done : (now : Due) (defaults : Defaults) (bytes : List ℕ) (number : ℕ) (lines : List (List ℕ))
    (total : Result (List ℕ) AssembleFault)
    → lines ≡ [] → assembled now defaults bytes number lines ≡ total →
    total ≡ ended number (finished now bytes) (trace_fault (finished now bytes))
unfolding assembled
is_done now defaults bytes number lines total is so_far = sym so_far ∙ ap (assembled now defaults bytes number) is
