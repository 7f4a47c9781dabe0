-- Lines that are added one after another, as a loop does.
use Rattle.std.proofs.Common.{◌≡◌, ◌⊎◌, inl, inr, ℕ, zero, suc, ◌+◌, ◌<◌, List, [], ◌∷◌, ◌++◌, length, take, drop}
use Rattle.std.proofs.Common.{get_or, Option, Some, None, Result, Ok, Err, refl, sym, ap, ◌∙◌, arith}
use Rattle.std.proofs.lemmas.List.{length-take-le, length-map}
use Rattle.std.specs.Borrow.{Bor}
use Rattle.std.specs.Option.{option_or}
use Rattle.std.specs.Prelude.{is_some, if◌then◌else◌}
use Rattle.explain_lines.specs.declared.fault.MapCause.{MapCause}
use Rattle.explain_lines.specs.declared.fault.MapCause.TheVariants.{Twice, OutOfMemory}
use Rattle.explain_lines.specs.Stamp.{Stamp, said_by}
use Rattle.explain_lines.specs.declared.times.Times.{Times}
use Rattle.explain_lines.specs.Map.{time_if, time_in, time_of, refusal_if, refusal, fault_or, fault_from}
use Rattle.explain_lines.specs.Steps.{texts}

or_none : {A : Type 0} (x : Option A) → option_or x None ≡ x
or_none None = refl
or_none (Some x) = refl

or_assoc : {A : Type 0} (x y z : Option A) → option_or (option_or x y) z ≡ option_or x (option_or y z)
or_assoc None y z = refl
or_assoc (Some x) y z = refl

-- what one more line tells stands behind what the others do
time_in_push : (before : List (List ℕ)) (line : List ℕ) (log : ℕ) (place : ℕ)
    → time_in (before ++ line ∷ []) log place ≡ option_or (time_in before log place) (time_if log place (said_by line))
time_in_push [] line log place = or_none (time_if log place (said_by line))
time_in_push (x ∷ before) line log place =
    ap (option_or (time_if log place (said_by x))) (time_in_push before line log place)
    ∙ sym (or_assoc (time_if log place (said_by x)) (time_in before log place) (time_if log place (said_by line)))

-- two maps with the same times refuse the same line
refused_alike : (known other : ℕ → ℕ → Option (List ℕ))
    → ((log : ℕ) (place : ℕ) → known log place ≡ other log place)
    → (told : Result (Option Stamp) MapCause) → refusal_if known told ≡ refusal_if other told
refused_alike known other alike (Ok (Some stamp)) =
    ap (λ (time : Option (List ℕ)). if is_some time then Some Twice else None) (alike stamp.log stamp.place)
refused_alike known other alike (Ok None) = refl
refused_alike known other alike (Err cause) = refl

goes_on : (before : List (List ℕ)) (line : List ℕ) (rest : List (List ℕ)) → refusal before line ≡ None
    → fault_from before (line ∷ rest) ≡ fault_from (before ++ line ∷ []) rest
goes_on before line rest fine =
    ap (λ (r : Option MapCause). fault_or (length before + 1) r (fault_from (before ++ line ∷ []) rest)) fine

stops : (before : List (List ℕ)) (line : List ℕ) (rest : List (List ℕ)) (cause : MapCause)
    → refusal before line ≡ Some cause
    → fault_from before (line ∷ rest) ≡ Some (record { line = length before + 1; cause = cause })
stops before line rest cause refused =
    ap (λ (r : Option MapCause). fault_or (length before + 1) r (fault_from (before ++ line ∷ []) rest)) refused

-- ---- the lines that are passed, one after another

texts_drop : (lines : List (Bor (List ℕ))) (n : ℕ) (d : Bor (List ℕ)) → n < length lines
    → drop n (texts lines) ≡ (get_or lines n d).now ∷ drop (n + 1) (texts lines)
texts_drop [] n d inside = absurd (omega arith)
texts_drop (x ∷ xs) zero d inside = refl
texts_drop (x ∷ xs) (suc n) d inside =
    let more : suc (n + 1) ≡ suc n + 1 = omega arith in
    texts_drop xs n d (omega arith)
    ∙ ap (λ (k : ℕ). (get_or xs n d).now ∷ drop k (texts (x ∷ xs))) more

texts_take : (lines : List (Bor (List ℕ))) (n : ℕ) (d : Bor (List ℕ)) → n < length lines
    → take (n + 1) (texts lines) ≡ take n (texts lines) ++ (get_or lines n d).now ∷ []
texts_take [] n d inside = absurd (omega arith)
texts_take (x ∷ xs) zero d inside = refl
texts_take (x ∷ xs) (suc n) d inside =
    let more : suc n + 1 ≡ suc (n + 1) = omega arith in
    ap (λ (k : ℕ). take k (texts (x ∷ xs))) more
    ∙ ap (λ (rest : List (List ℕ)). x.now ∷ rest) (texts_take xs n d (omega arith))

-- ---- a step of the loop

module _ (lines : List (Bor (List ℕ))) (n : ℕ) (d : Bor (List ℕ)) (inside : n < length lines) (times : Times)
    (fault : fault_from (take n (texts lines)) (drop n (texts lines)) ≡ fault_from [] (texts lines))
    (tells : (log : ℕ) (place : ℕ) → time_of times log place ≡ time_in (take n (texts lines)) log place) where
  abbrev line : List ℕ
  line = (get_or lines n d).now

  abbrev before : List (List ℕ)
  before = take n (texts lines)

  abbrev rest : List (List ℕ)
  rest = drop (n + 1) (texts lines)

  alike : refusal before line ≡ refusal_if (time_of times) (said_by line)
  alike = refused_alike (time_in before) (time_of times) (λ log place. sym (tells log place)) (said_by line)

  from_here : fault_from [] (texts lines) ≡ fault_from before (line ∷ rest)
  from_here = sym fault ∙ ap (fault_from before) (texts_drop lines n d inside)

  long : length before ≡ n
  long = length-take-le n (texts lines) (omega (arith, length-map {A = Bor (List ℕ)} {B = List ℕ}))

  pub refused_here : (cause : MapCause)
      → (cause ≡ OutOfMemory) ⊎ (refusal_if (time_of times) (said_by line) ≡ Some cause)
      → (cause ≡ OutOfMemory) ⊎ (fault_from [] (texts lines) ≡ Some (record { line = n + 1; cause = cause }))
  refused_here cause (inl out) = inl out
  refused_here cause (inr refused) =
      inr (from_here ∙ stops before line rest cause (alike ∙ refused)
      ∙ ap (λ (k : ℕ). Some (record { line = k + 1; cause = cause })) long)

  pub still_fine : refusal_if (time_of times) (said_by line) ≡ None
      → fault_from (take (n + 1) (texts lines)) rest ≡ fault_from [] (texts lines)
  still_fine fine =
      ap (λ (so_far : List (List ℕ)). fault_from so_far rest) (texts_take lines n d inside)
      ∙ sym (from_here ∙ goes_on before line rest (alike ∙ fine))

  pub still_tells : (new : Times)
      → ((log : ℕ) (place : ℕ) →
      time_of new log place ≡ option_or (time_of times log place) (time_if log place (said_by line)))
      → (log : ℕ) (place : ℕ) → time_of new log place ≡ time_in (take (n + 1) (texts lines)) log place
  still_tells new added log place =
      added log place
      ∙ ap (λ (time : Option (List ℕ)). option_or time (time_if log place (said_by line))) (tells log place)
      ∙ sym (ap (λ (so_far : List (List ℕ)). time_in so_far log place) (texts_take lines n d inside)
      ∙ time_in_push before line log place)
