-- What is kept while records come, of a part of the state.
use Rattle.std.specs.Prelude.{ℕ, not, ◌==◌, List, [], ◌∷◌, ◌++◌, map, filter, Option, Some, None}
use Rattle.explain_origins.specs.declared.standing.Begun.{Begun}
use Rattle.explain_origins.specs.declared.standing.Origin.{Origin}

-- the records that began these
abbrev pub begun_by : List Begun → List Origin
begun_by begun = map (λ one. one.origin) begun

-- those with another key
abbrev pub without : ℕ → List Begun → List Begun
without key begun = filter (λ one. not (one.key == key)) begun

abbrev pub without_ended : Option ℕ → List Begun → List Begun
without_ended None begun = begun
without_ended (Some key) begun = without key begun

abbrev pub with_begun : Origin → Option ℕ → List Begun → List Begun
with_begun origin None begun = begun
with_begun origin (Some key) begun = begun ++ record { origin = origin; key = key } ∷ []

-- after this record, which begins and ends this
abbrev pub kept_after : Origin → Option ℕ → Option ℕ → List Begun → List Begun
kept_after origin begins ends begun = with_begun origin begins (without_ended ends begun)
