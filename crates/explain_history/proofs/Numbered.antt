-- The places of numbers, one by one.
use Rattle.std.proofs.Common.{◌≡◌, ℕ, ◌+◌, List, None, get_or, take, length, arith}
use Rattle.std.proofs.lemmas.List.FromFn.{length-map-range_with_len, get_or-map-range_with_len, take-map-range_with_len}
use Rattle.lf_rules.specs.declared.event.Record.{Record}
use Rattle.explain_history.specs.Places.{place_of_number, places_of_numbers}

pub place_at : (bank : ℕ) (rs : List Record) (number : ℕ) →
    get_or (places_of_numbers bank rs (number + 1)) number None ≡ place_of_number bank rs number
place_at bank rs number = get_or-map-range_with_len (place_of_number bank rs) 0 (number + 1) number number None
    (omega arith) (omega arith)

pub places_before : (bank : ℕ) (rs : List Record) (number : ℕ) →
    take number (places_of_numbers bank rs (number + 1)) ≡ places_of_numbers bank rs number
places_before bank rs number = take-map-range_with_len (place_of_number bank rs) 0 (number + 1) number (omega arith)

pub places_len : (bank : ℕ) (rs : List Record) (count : ℕ) → length (places_of_numbers bank rs count) ≡ count
places_len bank rs count = length-map-range_with_len (place_of_number bank rs) 0 count
