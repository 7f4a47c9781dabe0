-- One place more, of a record and of none.
use Rattle.std.proofs.Common.{◌≡◌, ℕ, List, ◌∷◌, Option, Some, None, refl}
use Rattle.std.specs.Prelude.{slice_get}
use Rattle.lf_rules.specs.declared.event.Record.{Record}
use Rattle.lf_rules.specs.declared.shape.Shape.{Shape}
use Rattle.explain_origins.specs.Origins.{Step, steps}
use Rattle.explain_origins.specs.Requests.{Queues, queued, accepted}

pub steps_none : (shape : Shape) (queues : Queues) (rs : List Record) (place : ℕ) (places : List (Option ℕ)) →
    slice_get rs place ≡ None
    → steps shape queues rs (Some place ∷ places) ≡ steps shape queues rs places
steps_none shape queues rs place places none = rw none refl

-- the record with the request that it accepts
abbrev pub step_of : Queues → ℕ → Record → Step
step_of queues place r = record { place = place; request = accepted queues r.event; item = r }

-- the requests that wait after it
abbrev pub queues_then : Shape → Queues → ℕ → Record → Queues
queues_then shape queues place r = queued shape place r.log r.event queues

pub steps_some : (shape : Shape) (queues : Queues) (rs : List Record) (place : ℕ) (r : Record)
    (places : List (Option ℕ)) → slice_get rs place ≡ Some r
    → steps shape queues rs (Some place ∷ places)
    ≡ step_of queues place r ∷ steps shape (queues_then shape queues place r) rs places
steps_some shape queues rs place r places here = rw here refl
