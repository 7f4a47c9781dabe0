-- How far what is left of the logs goes on.
use Rattle.std.specs.Prelude.{◌≡◌, ℕ, ◌+◌, ◌-◌, List, [], ◌∷◌, length, slice_index}
use Rattle.lf_rules.specs.declared.ring.Knot.{Knot}
use Rattle.lf_join.specs.Heads.{IsAt}
use Rattle.lf_join.specs.Progress.{Reached, OfReached}

-- each number with the one beside it
abbrev pub added : List ℕ → List ℕ → List ℕ
added [] qs = []
added (p ∷ ps) [] = []
added (p ∷ ps) (q ∷ qs) = (p + q) ∷ added ps qs

-- how many entries are left behind these places
abbrev pub ahead_of : List (List (ℕ × ℕ)) → List ℕ → ℕ
ahead_of [] ps = 0
ahead_of (xs ∷ logs) [] = 0
ahead_of (xs ∷ logs) (p ∷ ps) = (length xs - p) + ahead_of logs ps

-- the knot of what is left, in the whole logs
abbrev pub knot_behind : List ℕ → Knot → Knot
knot_behind places knot = record { log = knot.log; at = slice_index places knot.log + knot.at }

-- From what the logs have reached, more has gone: of what is left of each log so many entries, so that each bank's next
-- number is this.
pub record RunsOn (reached : Reached) (left : List (List (ℕ × ℕ))) (places next : List ℕ) : Type 0 where
  pub reached_len : length reached.places ≡ 32
  pub places_len : length places ≡ 32
  pub next_len : length next ≡ 256
  pub run : OfReached reached left (λ skeletons. (order : List ℕ) ×
      IsAt skeletons order (added reached.places places) next)
