-- The last records that touch a block, told from few of the records.
use Rattle.std.specs.Prelude.{◌≡◌, ℕ, List, [], ◌∷◌, ◌++◌, Option, None}
use Rattle.explain_history.specs.History.{about}

-- These are the last of all.
pub record EndsWith (end all : List ℕ) : Type 0 where
  pub front : List ℕ
  pub joined : all ≡ front ++ end

-- the place of a record that touches this, where that is the block that was asked about
abbrev pub about_one : Option ℕ → ℕ → Option ℕ → List ℕ
about_one wanted place second = about wanted (record { place = place; second = second } ∷ [])

-- What is kept after the record at one more place, which touches this. Where that is not known, nothing before counts.
abbrev pub kept : Option ℕ → ℕ → Option ℕ → List ℕ → List ℕ
kept wanted place None found = []
kept wanted place second found = found ++ about_one wanted place second
