-- What was read piece by piece.
use Rattle.std.specs.Prelude.{◌≡◌, ◌≢◌, ◌⊎◌, ℕ, ◌≤◌, List, [], ◌∷◌, ◌++◌, length, All}
use Rattle.std.specs.List.{concat}
use Rattle.std.specs.Io.KnownBytes.{Consumes, IsAtEnd}
use Rattle.run_stream.specs.Account.{Account}
use Rattle.run_stream.specs.declared.gathering.Stop.{Stop}
use Rattle.run_stream.specs.declared.gathering.Stop.TheVariants.{Read, Turns, Sink}

-- The reads between two moments answered these bytes, after which more are wanted.
pub record IsPartRead (HasEnough : List ℕ → Type 0) (old new : Account) (bytes : List ℕ) : Type 0 where
  pub pieces : List (List ℕ)
  pub answered : new.pieces ≡ old.pieces ++ pieces
  pub joined : bytes ≡ concat pieces
  pub given : Consumes old.known new.known bytes
  pub wanted : ¬ HasEnough bytes

-- The reads between two moments answered these bytes, and then no more were wanted: the last read, of at most so many
-- bytes, answered none, or what makes them enough came with it.
pub record IsAllRead (HasEnough : List ℕ → Type 0) (most : ℕ) (old new : Account) (bytes : List ℕ) : Type 0 where
  pub before : List (List ℕ)
  pub last : List ℕ
  pub answered : new.pieces ≡ old.pieces ++ (before ++ last ∷ [])
  pub joined : bytes ≡ concat before ++ last
  pub one_read : length last ≤ most
  pub wanted : ¬ HasEnough (concat before)
  pub ended : ¬ HasEnough bytes → last ≡ []
  pub given : Consumes old.known new.known bytes
  pub at_end : ¬ HasEnough bytes → IsAtEnd new.known

-- Further reads answered, and each of them some bytes, so none said that the bytes end.
abbrev pub GoesOn : List (List ℕ) → List (List ℕ) → Type 0
GoesOn old new = (pieces : List (List ℕ)) × (new ≡ old ++ pieces) × All (λ piece. piece ≢ []) pieces

-- Further reads answered, and each but the last some bytes.
abbrev pub GoesOnToLast : List (List ℕ) → List (List ℕ) → Type 0
GoesOnToLast old new = (before : List (List ℕ)) × (last : List ℕ) × GoesOn old before × (new ≡ before ++ last ∷ [])

-- Further reads answered. Where one of them answered no bytes, it was the last.
abbrev pub EndsOnce : List (List ℕ) → List (List ℕ) → Type 0
EndsOnce old new = GoesOn old new ⊎ GoesOnToLast old new

-- What holds where reading stopped, and not the sink.
abbrev pub OfReading : {E : Type 0} → Stop E → Type 0 → Type 0
OfReading Read P = P
OfReading Turns P = P
OfReading (Sink e) P = Unit {0}
