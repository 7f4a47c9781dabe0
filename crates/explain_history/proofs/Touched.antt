-- One place more, of a record and of none.
use Rattle.std.proofs.Common.{◌≡◌, ℕ, List, ◌∷◌, Option, Some, None, refl}
use Rattle.std.specs.Prelude.{slice_get}
use Rattle.lf_rules.specs.declared.event.Record.{Record}
use Rattle.lf_rules.specs.declared.shape.Shape.{Shape}
use Rattle.explain_history.specs.Touching.{touched, touches, all_before}

pub touches_none : (shape : Shape) (before rs : List Record) (place : ℕ) (places : List (Option ℕ)) →
    slice_get rs place ≡ None
    → touches shape before rs (Some place ∷ places) ≡ touches shape before rs places
touches_none shape before rs place places none = rw none refl

pub all_before_none : (before rs : List Record) (place : ℕ) (places : List (Option ℕ)) → slice_get rs place ≡ None
    → all_before before rs (Some place ∷ places) ≡ all_before before rs places
all_before_none before rs place places none = rw none refl

pub touches_some : (shape : Shape) (before rs : List Record) (place : ℕ) (r : Record) (places : List (Option ℕ)) →
    slice_get rs place ≡ Some r
    → touches shape before rs (Some place ∷ places)
    ≡ record { place = place; second = touched shape before r.log r.event } ∷ touches shape (r ∷ before) rs places
touches_some shape before rs place r places here = rw here refl

pub all_before_some : (before rs : List Record) (place : ℕ) (r : Record) (places : List (Option ℕ)) →
    slice_get rs place ≡ Some r
    → all_before before rs (Some place ∷ places) ≡ all_before (r ∷ before) rs places
all_before_some before rs place r places here = rw here refl
