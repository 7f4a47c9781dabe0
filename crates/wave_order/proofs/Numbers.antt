-- What `parse` reads, as the number of decimal digits alone.
use Rattle.std.proofs.Common.{◌≡◌, ◌≢◌, ℕ, ◌^◌, ◌<◌, Bool, true, false, ◌&&◌, List, [], ◌∷◌, length, get_or}
use Rattle.std.proofs.Common.{Some, None, Result, Ok, Err, refl, sym, ap, ◌∙◌, arith}
use Rattle.std.proofs.lemmas.Bool.{and_parts, and_from, ltb-true, lt-ltb}
use Rattle.std.proofs.lemmas.Str.Parse.{IsNumeralModel, numerals_by_value, tells_all_ascii_digits, parse_plain}
use Rattle.std.specs.Prelude.{nat_lt, if◌then◌else◌}
use Rattle.std.specs.Result.{OkIff, result_ok}
use Rattle.std.specs.Str.{all_ascii_digits}
use Rattle.std.specs.Str.Parse.{digits_value, ParsesUnsigned}
use Rattle.explain_lines.specs.Stamp.{is_numeral, number_of}

own : IsNumeralModel (λ ds. all_ascii_digits ds ≡ true) (digits_value 10)
own = numerals_by_value (λ ds. all_ascii_digits ds ≡ true) tells_all_ascii_digits

-- what comes exactly where P holds, by a test of P
picked : {E : Type 0} (P : Type 0) (v : ℕ) (r : Result ℕ E) (test : Bool) → (P → test ≡ true) → (test ≡ true → P)
    → OkIff r P v → result_ok r ≡ (if test then Some v else None)
picked P v (Ok x) test to from h =
    ap Some h.1 ∙ sym (ap (λ (t : Bool). if t then Some v else None) (to h.0))
picked P v (Err e) true to from h = absurd (h (from refl))
picked P v (Err e) false to from h = refl

abbrev fits : List ℕ → Type 0
fits bs = (all_ascii_digits bs ≡ true) × (0 < length bs) × (digits_value 10 bs < 2 ^ 64)

abbrev test : List ℕ → Bool
test bs = is_numeral bs && nat_lt (digits_value 10 bs) (2 ^ 64)

fits_test : (bs : List ℕ) → fits bs → test bs ≡ true
fits_test [] h = absurd (omega (arith, h.1))
fits_test (c ∷ cs) h = and_from _ _ h.0 (lt-ltb _ _ h.2)

test_fits : (bs : List ℕ) → test bs ≡ true → fits bs
test_fits [] t = cc
test_fits (c ∷ cs) t = let p = and_parts _ _ t in (p.0, omega arith, ltb-true _ _ p.1)

pub number_is : {E : Type 0} (bs : List ℕ) (r : Result ℕ E) → ParsesUnsigned 64 10 bs r → get_or bs 0 0 ≢ 43
    → result_ok r ≡ number_of bs
number_is bs r h plain =
    picked (fits bs) (digits_value 10 bs) r (test bs) (fits_test bs) (test_fits bs) (parse_plain own 64 bs r h plain)
