-- A field that is printed is read again, whatever stands behind it.
use Rattle.std.proofs.Common.{◌≡◌, ℕ, zero, suc, ◌+◌, ◌*◌, ◌/◌, ◌%◌, ◌^◌, ◌<◌, ◌≤◌, Bool, true, false, not, ◌&&◌}
use Rattle.std.proofs.Common.{cond, eqb, ltb, leb, List, [], ◌∷◌, ◌++◌, length, get_or, Some, None, Ok, refl, ap, ◌∙◌}
use Rattle.std.proofs.Common.{arith}
use Rattle.std.specs.Fmt.{decimal, digits}
use Rattle.std.specs.Char.{digit_value}
use Rattle.std.specs.Str.Parse.{AllDigits, IsNumeral, digits_value, digits_value_after}
use Rattle.std.specs.Result.{result_ok}
use Rattle.std.proofs.lemmas.Fmt.{digits_is_IsNumeral, decimal_is_IsNumeral}
use Rattle.std.proofs.lemmas.Bool.{le-ltb}
use Rattle.hex.specs.Hex.{encode_with, encode_lower, lower_digits, decode_sized}
use Rattle.hex.proofs.HexLemmas.{length-encode_with, decode_sized-encode_lower}
use Rattle.text_print.specs.Text.{hexadecimal, data_text}
use Rattle.text_parse.specs.declared.fault.Name.{Name}
use Rattle.text_parse.specs.declared.fault.Name.TheVariants as names
use Rattle.text_parse.specs.Text.{name_text}
use Rattle.text_parse.specs.Words.{is_blank, is_of_word, without_blanks, word_of, after_word, is_over, without_front}
use Rattle.text_parse.specs.Fields.{field_at, number_after, number_of, decimal_at, number_at, version_at}
use Rattle.text_parse.specs.Fields.{hexadecimal_at, bytes_of, bytes_at, carried_at}
use Rattle.text_parse.specs.Lines.{is_behind}

-- ---- words

abbrev pub all_of_word : List ℕ → Bool
all_of_word [] = true
all_of_word (b ∷ bytes) = is_of_word b && all_of_word bytes

-- no word goes on here
abbrev pub ends_word : List ℕ → Bool
ends_word [] = true
ends_word (b ∷ text) = not (is_of_word b)

and_both : (a b : Bool) → (a && b) ≡ true → (a ≡ true) × (b ≡ true)
and_both true b h = (refl, h)
and_both false b h = absurd cc

not_true : (a : Bool) → not a ≡ true → a ≡ false
not_true true h = absurd cc
not_true false h = refl

pub word_again : (word rest : List ℕ) → all_of_word word ≡ true → ends_word rest ≡ true → word_of (word ++ rest) ≡ word
word_again [] [] all ends = refl
word_again [] (b ∷ rest) all ends = rw (not_true (is_of_word b) ends) refl
word_again (b ∷ word) rest all ends =
    let both = and_both (is_of_word b) (all_of_word word) all in
    rw both.0 (ap (λ (w : List ℕ). b ∷ w) (word_again word rest both.1 ends))

pub after_again : (word rest : List ℕ) → all_of_word word ≡ true → ends_word rest ≡ true →
    after_word (word ++ rest) ≡ rest
after_again [] [] all ends = refl
after_again [] (b ∷ rest) all ends = rw (not_true (is_of_word b) ends) refl
after_again (b ∷ word) rest all ends =
    let both = and_both (is_of_word b) (all_of_word word) all in
    rw both.0 (after_again word rest both.1 ends)

pub front_again : (front rest : List ℕ) → without_front front (front ++ rest) ≡ Some rest
front_again [] rest = refl
front_again (p ∷ front) rest = let same : eqb p p ≡ true = grind arith in rw same (front_again front rest)

-- ---- fields

-- a field as it is printed, before more text
abbrev pub field_text : Name → List ℕ → List ℕ → List ℕ
field_text name value rest = 32 ∷ (name_text name ++ (value ++ rest))

blank_before : (name : Name) (text : List ℕ) → without_blanks (32 ∷ (name_text name ++ text)) ≡ name_text name ++ text
blank_before names.Version text = refl
blank_before names.Ports text = refl
blank_before names.Banks text = refl
blank_before names.Block text = refl
blank_before names.Factor text = refl
blank_before names.Memory text = refl
blank_before names.Bytes text = refl
blank_before names.Port text = refl
blank_before names.Bank text = refl
blank_before names.Number text = refl
blank_before names.Tag text = refl
blank_before names.Size text = refl
blank_before names.Address text = refl
blank_before names.Register text = refl
blank_before names.Mask text = refl
blank_before names.Count text = refl

name_in_word : (name : Name) (text : List ℕ) → word_of (name_text name ++ text) ≡ name_text name ++ word_of text
name_in_word names.Version text = refl
name_in_word names.Ports text = refl
name_in_word names.Banks text = refl
name_in_word names.Block text = refl
name_in_word names.Factor text = refl
name_in_word names.Memory text = refl
name_in_word names.Bytes text = refl
name_in_word names.Port text = refl
name_in_word names.Bank text = refl
name_in_word names.Number text = refl
name_in_word names.Tag text = refl
name_in_word names.Size text = refl
name_in_word names.Address text = refl
name_in_word names.Register text = refl
name_in_word names.Mask text = refl
name_in_word names.Count text = refl

name_before : (name : Name) (text : List ℕ) → after_word (name_text name ++ text) ≡ after_word text
name_before names.Version text = refl
name_before names.Ports text = refl
name_before names.Banks text = refl
name_before names.Block text = refl
name_before names.Factor text = refl
name_before names.Memory text = refl
name_before names.Bytes text = refl
name_before names.Port text = refl
name_before names.Bank text = refl
name_before names.Number text = refl
name_before names.Tag text = refl
name_before names.Size text = refl
name_before names.Address text = refl
name_before names.Register text = refl
name_before names.Mask text = refl
name_before names.Count text = refl

pub field_again : (name : Name) (value rest : List ℕ) → all_of_word value ≡ true → ends_word rest ≡ true
    → field_at name (field_text name value rest) ≡ Ok (value, rest)
unfolding field_at
field_again name value rest all ends =
    let here = name_text name ++ (value ++ rest) in
    let blank : without_blanks (field_text name value rest) ≡ here = blank_before name (value ++ rest) in
    let word : word_of here ≡ name_text name ++ value =
    name_in_word name (value ++ rest) ∙ ap (λ (w : List ℕ). name_text name ++ w) (word_again value rest all ends) in
    let after : after_word here ≡ rest = name_before name (value ++ rest) ∙ after_again value rest all ends in
    rw (blank, word, front_again (name_text name) value, after) refl

-- ---- digits

not_equal : (a b : ℕ) → (a ≡ b → ⊥) → eqb a b ≡ false
not_equal a b h = grind arith

no_digit : (c k : ℕ) → digit_value c < 36 → digit_value k ≡ 36 → eqb c k ≡ false
no_digit c k below is = not_equal c k (λ e. let same : digit_value c ≡ 36 = ap digit_value e ∙ is in omega arith)

digit_of_word : (c : ℕ) → digit_value c < 36 → is_of_word c ≡ true
digit_of_word c below = rw (
  no_digit c 32 below refl,
  no_digit c 9 below refl,
  no_digit c 13 below refl,
  no_digit c 59
      below refl,
) refl

pub digits_of_word : (radix : ℕ) (ds : List ℕ) → radix ≤ 36 → AllDigits radix ds → all_of_word ds ≡ true
digits_of_word radix [] le all = refl
digits_of_word radix (c ∷ ds) le all =
    rw (digit_of_word c (omega (arith, all.0))) (digits_of_word radix ds le all.1)

grows : (radix n d : ℕ) → 1 ≤ radix → n ≤ n * radix + d
grows radix n d some = grind arith

value_ge : (radix n : ℕ) (ds : List ℕ) → 1 ≤ radix → n ≤ digits_value_after radix n ds
value_ge radix n [] some = omega arith
value_ge radix n (c ∷ ds) some =
    omega (arith, grows radix n (digit_value c) some, value_ge radix (n * radix + digit_value c) ds some)

after_digits : (radix most n : ℕ) (ds : List ℕ) → 1 ≤ radix → AllDigits radix ds → digits_value_after radix n ds ≤ most
    → number_after radix most n ds ≡ Some (digits_value_after radix n ds)
after_digits radix most n [] some all le = refl
after_digits radix most n (c ∷ ds) some all le =
    let m = n * radix + digit_value c in
    let digit : ltb (digit_value c) radix ≡ true = grind (arith, all.0) in
    let within : m ≤ most = omega (arith, value_ge radix m ds some) in
    let fits : leb m most ≡ true = grind arith in
    rw (digit, fits) (after_digits radix most m ds some all.1 le)

pub number_again : (radix most : ℕ) (ds : List ℕ) → 1 ≤ radix → IsNumeral radix ds → digits_value radix ds ≤ most
    → number_of radix most ds ≡ Some (digits_value radix ds)
unfolding number_of
number_again radix most [] some numeral le = absurd (omega (arith, numeral.0))
number_again radix most (c ∷ ds) some numeral le = after_digits radix most 0 (c ∷ ds) some numeral.1 le

pub decimal_again : (name : Name) (most n : ℕ) (rest : List ℕ) → n ≤ most → n < 2 ^ 64 → ends_word rest ≡ true
    → decimal_at name most (field_text name (decimal n) rest) ≡ Ok (n, rest)
unfolding decimal_at
decimal_again name most n rest le small ends =
    let numeral = decimal_is_IsNumeral n small in
    let number : number_of 10 most (decimal n) ≡ Some n =
    number_again 10 most (decimal n) (omega arith) numeral.0 (omega (arith, numeral.1))
    ∙ ap (λ (m : ℕ). Some m) numeral.1 in
    rw (field_again name (decimal n) rest (digits_of_word 10 (decimal n) (omega arith) numeral.0.1) ends, number) refl

pub number_or_again : (next n : ℕ) (rest : List ℕ) → n < 0x1_0000_0000 → ends_word rest ≡ true
    → number_at next (field_text names.Number (decimal n) rest) ≡ Ok (n, rest)
unfolding number_at
number_or_again next n rest fits ends = decimal_again names.Number 0xffff_ffff n rest (omega arith) (omega arith) ends

pub version_again : (n : ℕ) (rest : List ℕ) → n < 0x1_0000 → ends_word rest ≡ true
    → version_at (field_text names.Version (decimal n) rest) ≡ Ok (Some n, rest)
unfolding version_at
version_again n rest fits ends = rw (decimal_again names.Version 0xffff n rest (omega arith) (omega arith) ends) refl

pub hexadecimal_again : (name : Name) (n : ℕ) (rest : List ℕ) → n < 2 ^ 64 → ends_word rest ≡ true
    → hexadecimal_at name (field_text name (hexadecimal n) rest) ≡ Ok (n, rest)
unfolding hexadecimal_at
hexadecimal_again name n rest small ends =
    let ds = digits 16 false n in
    let numeral = digits_is_IsNumeral 16 false (omega arith) (omega arith) n (omega arith) in
    let number : number_of 16 0xffff_ffff_ffff_ffff ds ≡ Some n =
    number_again 16 0xffff_ffff_ffff_ffff ds (omega arith) numeral.0 (omega (arith, numeral.1))
    ∙ ap (λ (m : ℕ). Some m) numeral.1 in
    let word : all_of_word (hexadecimal n) ≡ true = digits_of_word 16 ds (omega arith) numeral.0.1 in
    rw (field_again name (hexadecimal n) rest word ends, number) refl

-- ---- bytes

glyph_of_word : (table : List ℕ) (i : ℕ) → all_of_word table ≡ true → is_of_word (get_or table i 0) ≡ true
glyph_of_word [] i all = refl
glyph_of_word (b ∷ table) zero all = (and_both (is_of_word b) (all_of_word table) all).0
glyph_of_word (b ∷ table) (suc i) all = glyph_of_word table i (and_both (is_of_word b) (all_of_word table) all).1

encoded_of_word : (bytes : List ℕ) → all_of_word (encode_lower bytes) ≡ true
unfolding encode_with
encoded_of_word [] = refl
encoded_of_word (b ∷ bytes) =
    rw (glyph_of_word lower_digits (b / 16) refl, glyph_of_word lower_digits (b % 16) refl) (encoded_of_word bytes)

pub spelled_again : (most : ℕ) (bytes : List ℕ) → length bytes ≤ most → ((i : ℕ) → get_or bytes i 0 < 256)
    → bytes_of most (encode_lower bytes) ≡ Some bytes
unfolding bytes_of
spelled_again most bytes few fit =
    let twice = length-encode_with lower_digits bytes in
    let half : length (encode_lower bytes) / 2 ≡ length bytes = omega arith in
    let room : ltb most (length bytes) ≡ false = le-ltb _ _ few in
    let digits = encode_lower bytes in
    ap (λ (n : ℕ). cond (ltb most n) None (result_ok (decode_sized digits n))) half
    ∙ ap (λ (b : Bool). cond b None (result_ok (decode_sized digits (length bytes)))) room
    ∙ ap result_ok (decode_sized-encode_lower bytes (length bytes) refl fit)

pub bytes_again : (most : ℕ) (bytes rest : List ℕ) → length bytes ≤ most → ((i : ℕ) → get_or bytes i 0 < 256) →
    ends_word rest ≡ true
    → bytes_at most (field_text names.Bytes (encode_lower bytes) rest) ≡ Ok (bytes, rest)
unfolding bytes_at
bytes_again most bytes rest few fit ends =
    rw (
      field_again names.Bytes (encode_lower bytes) rest (encoded_of_word bytes) ends,
      spelled_again most bytes few
          fit,
    ) refl

-- ---- the end of a line

behind_step : (t : Bool) (b : ℕ) (text : List ℕ) → is_blank b ≡ t → cond t (is_behind text) (eqb b 59) ≡ true →
    not (is_of_word b) ≡ true
behind_step true b text blank h = rw blank refl
behind_step false b text blank h = rw (blank, h) refl

pub behind_ends : (text : List ℕ) → is_behind text ≡ true → ends_word text ≡ true
behind_ends [] h = refl
behind_ends (b ∷ text) h = behind_step (is_blank b) b text refl h

over_step : (t : Bool) (b : ℕ) (text : List ℕ) → (is_behind text ≡ true → is_over (without_blanks text) ≡ true)
    → cond t (is_behind text) (eqb b 59) ≡ true → is_over (cond t (without_blanks text) (b ∷ text)) ≡ true
over_step true b text ih h = ih h
over_step false b text ih h = h

pub behind_is_over : (text : List ℕ) → is_behind text ≡ true → is_over (without_blanks text) ≡ true
behind_is_over [] h = refl
behind_is_over (b ∷ text) h = over_step (is_blank b) b text (behind_is_over text) h

-- ---- the bytes that an event carries

pub data_ends : (bytes rest : List ℕ) → is_behind rest ≡ true → ends_word (data_text bytes ++ rest) ≡ true
data_ends [] rest behind = behind_ends rest behind
data_ends (b ∷ bytes) rest behind = refl

pub carried_again : (most : ℕ) (bytes rest : List ℕ) → length bytes ≤ most → ((i : ℕ) → get_or bytes i 0 < 256) →
    is_behind rest ≡ true
    → carried_at most (data_text bytes ++ rest) ≡ Ok (bytes, rest)
unfolding carried_at
carried_again most [] rest few fit behind = rw (behind_is_over rest behind) refl
carried_again most (b ∷ bytes) rest few fit behind = bytes_again most (b ∷ bytes) rest few fit (behind_ends rest behind)
