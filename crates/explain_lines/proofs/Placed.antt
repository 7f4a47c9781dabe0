-- What stands beside the record at a place.
use Rattle.std.proofs.Common.{◌≡◌, ℕ, zero, suc, List, [], ◌∷◌, Option, None, refl}
use Rattle.std.specs.Option.{option_map}
use Rattle.std.specs.Prelude.{slice_get, unwrap_or}
use Rattle.explain_lines.specs.Marks.{Beside, besides_in}

-- with an offset
abbrev pub with_offset : Option (List ℕ) → ℕ → Beside
with_offset time offset = record { offset = offset; time = time }

-- the offset at the place, with the time there
pub beside_at : (offsets : List ℕ) (times : List (Option (List ℕ))) (place : ℕ)
    → slice_get (besides_in offsets times) place
    ≡ option_map (with_offset (unwrap_or (slice_get times place) None)) (slice_get offsets place)
beside_at [] times place = refl
beside_at (offset ∷ offsets) [] zero = refl
beside_at (offset ∷ offsets) [] (suc place) = beside_at offsets [] place
beside_at (offset ∷ offsets) (time ∷ times) zero = refl
beside_at (offset ∷ offsets) (time ∷ times) (suc place) = beside_at offsets times place
