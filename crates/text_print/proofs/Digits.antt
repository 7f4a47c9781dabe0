-- The digits of bytes that are written in parts.
use Rattle.std.proofs.Common.{◌≡◌, ℕ, ◌/◌, ◌%◌, true, List, [], ◌∷◌, ◌++◌, nat_lt, slice_index, Result, Ok, Err, refl}
use Rattle.std.proofs.Common.{ap, rules}
use Rattle.std.specs.Prelude.{IsOk, OnOk}
use Rattle.std.specs.List.{list_all}
use Rattle.std.specs.Str.{IsUtf8, IsAscii}
use Rattle.std.proofs.lemmas.Bool.{and_parts}
use Rattle.std.proofs.lemmas.Str.{IsUtf8-from_ascii}
use Rattle.std.proofs.lemmas.Str.Ascii.{IsAscii-nil, IsAscii-cons}
use Rattle.hex.specs.Hex.{encode_with, encode_lower, lower_digits}
use Rattle.hex.proofs.HexLemmas.{IsAscii-encode_with}

pub encode_with-append : (t xs ys : List ℕ) → encode_with t (xs ++ ys) ≡ encode_with t xs ++ encode_with t ys
unfolding encode_with
encode_with-append t [] ys = refl
encode_with-append t (b ∷ xs) ys =
    ap (λ (rest : List ℕ). slice_index t (b / 16) ∷ slice_index t (b % 16) ∷ rest) (encode_with-append t xs ys)

pub encode_with-nil : (t : List ℕ) → encode_with t [] ≡ []
unfolding encode_with
encode_with-nil t = refl

ascii_by_test : (bs : List ℕ) → list_all (λ b. nat_lt b 128) bs ≡ true → IsAscii bs
ascii_by_test [] all = IsAscii-nil
ascii_by_test (b ∷ bs) all =
    let both = and_parts (nat_lt b 128) (list_all (λ b. nat_lt b 128) bs) all in
    IsAscii-cons b bs (search (rules, both.0)) (ascii_by_test bs both.1)

pub digits_are_text : (bytes : List ℕ) → IsUtf8 (encode_lower bytes)
digits_are_text bytes = IsUtf8-from_ascii _ (IsAscii-encode_with lower_digits bytes (ascii_by_test lower_digits refl))

pub from_ok : {T E P : Type 0} (r : Result T E) → IsOk r → OnOk r P → P
from_ok (Ok v) ok p = p
from_ok (Err e) ok p = cc ok

-- the digits of all bytes but the rest were written
pub record IsSpelledTo {F : Type 0} (Written : List ℕ → F → Type 0) (bytes rest : List ℕ) (f : F) : Type 0 where
  pub before : List ℕ
  pub whole : bytes ≡ before ++ rest
  pub written : Written (encode_lower before) f
