-- What an observer of a search is told.
use Rattle.std.specs.Prelude.{◌≡◌, ℕ, suc, ◌≤◌, List, [], ◌∷◌}

-- The observer was told of these, the latest first: each time what it was told turned it into the next.
abbrev pub WasTold : {O : Type 0} → (O → ℕ → ℕ → O → Type 0) → O → List (ℕ × ℕ) → O → Type 0
WasTold tells old [] new = new ≡ old
WasTold {O} tells old (call ∷ earlier) new =
    (before : O) × WasTold tells old earlier before × tells before call.0 call.1 new

-- They tell of so many checks, the latest first: of each its number, from 1 on, and how many events the smallest trace
-- had after it. That is so many at first, never rises, and is so many in the end.
abbrev pub TellOf : ℕ → List (ℕ × ℕ) → ℕ → ℕ → Type 0
TellOf events [] checks left = (checks ≡ 0) × (left ≡ events)
TellOf events (call ∷ earlier) checks left = (call ≡ (checks, left)) ×
    (n : ℕ) × (before : ℕ) × (checks ≡ suc n) × (left ≤ before) × TellOf events earlier n before
