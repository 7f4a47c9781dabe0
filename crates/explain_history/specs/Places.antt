-- The places of records in a trace, from 0.
use Rattle.std.specs.Prelude.{ℕ, suc, Bool, ◌&&◌, ◌==◌, List, [], ◌∷◌, map, Option, slice_get, if◌then◌else◌}
use Rattle.std.specs.List.{range_with_len}
use Rattle.lf_rules.specs.declared.event.Record.{Record}

-- the places of the records for which this holds, where the first record stands at this place
abbrev pub places_from : (Record → Bool) → ℕ → List Record → List ℕ
places_from holds place [] = []
places_from holds place (r ∷ rs) = if holds r then place ∷ places_from holds (suc place) rs else places_from holds
    (suc place) rs

-- the places of the records of a log
abbrev pub places_of_log : ℕ → List Record → List ℕ
places_of_log log rs = places_from (λ r. r.log == log) 0 rs

abbrev pub is_numbered : ℕ → ℕ → Record → Bool
is_numbered bank number r = (r.bank == bank) && (r.number == number)

-- the place of the first record that has this number of the bank
abbrev pub place_of_number : ℕ → List Record → ℕ → Option ℕ
place_of_number bank rs number = slice_get (places_from (is_numbered bank number) 0 rs) 0

-- the same for the numbers 0 to count - 1
abbrev pub places_of_numbers : ℕ → List Record → ℕ → List (Option ℕ)
places_of_numbers bank rs count = map (place_of_number bank rs) (range_with_len 0 count)
