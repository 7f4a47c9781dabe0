-- How a field is read: its value, and the text behind it.
use Rattle.std.specs.Prelude.{ℕ, zero, suc, ◌+◌, ◌*◌, ◌/◌, Bool, ◌&&◌, ◌||◌, nat_lt, nat_le, List, [], ◌∷◌, length}
use Rattle.std.specs.Prelude.{codes, if◌then◌else◌, Option, Some, None, Result, Ok, Err}
use Rattle.std.specs.Option.{is_some}
use Rattle.std.specs.Char.{digit_value}
use Rattle.std.specs.Result.{result_ok}
use Rattle.hex.specs.Hex.{decode_sized}
use Rattle.lf_rules.specs.declared.mask.Mask.{Mask}
use Rattle.text_parse.specs.declared.fault.Lack.{Lack}
use Rattle.text_parse.specs.declared.fault.Name.{Name}
use Rattle.text_parse.specs.declared.fault.Name.TheVariants as names
use Rattle.text_parse.specs.declared.fault.Expected.{Expected}
use Rattle.text_parse.specs.declared.fault.Expected.TheVariants as due
use Rattle.text_parse.specs.Text.{name_text}
use Rattle.text_parse.specs.Words.{◌>>=◌, without_blanks, word_of, after_word, is_over, without_front}

-- this is expected, before so many bytes
abbrev pub lacks : {A : Type 0} → Expected → ℕ → Result A Lack
lacks expected left = Err (record { expected = expected; left = left })

-- ---- a field: its value as it is spelled

abbrev pub valued : Name → List ℕ → Option (List ℕ) → Result (List ℕ × List ℕ) Lack
valued name text (Some value) = Ok (value, after_word text)
valued name text None = lacks (due.Field name) (length text)

-- the next word, from its first letter on, is this field
abbrev pub field_from : Name → List ℕ → Result (List ℕ × List ℕ) Lack
field_from name text = valued name text (without_front (name_text name) (word_of text))

unfoldable pub field_at : Name → List ℕ → Result (List ℕ × List ℕ) Lack
field_at name text = field_from name (without_blanks text)

-- ---- numbers

-- a digit behind a number, where both together are not above the most
abbrev pub digit_added : ℕ → ℕ → ℕ → ℕ → Option ℕ
digit_added radix most n c =
    if nat_lt (digit_value c) radix && nat_le (n * radix + digit_value c) most then Some (n * radix + digit_value c)
    else None

abbrev pub number_after : ℕ → ℕ → ℕ → List ℕ → Option ℕ
number_after radix most n [] = Some n
number_after radix most n (c ∷ cs) =
    if nat_lt (digit_value c) radix && nat_le (n * radix + digit_value c) most
    then number_after radix most (n * radix + digit_value c) cs else None

-- the number of these digits
unfoldable pub number_of : ℕ → ℕ → List ℕ → Option ℕ
number_of radix most [] = None
number_of radix most (c ∷ cs) = number_after radix most 0 (c ∷ cs)

abbrev pub numbered : Expected → List ℕ → List ℕ → Option ℕ → Result (ℕ × List ℕ) Lack
numbered expected value rest (Some n) = Ok (n, rest)
numbered expected value rest None = lacks expected (length value + length rest)

-- a decimal number, up to the most
unfoldable pub decimal_at : Name → ℕ → List ℕ → Result (ℕ × List ℕ) Lack
decimal_at name most text = do
  field ← field_at name text
  numbered (due.Number most) field.0 field.1 (number_of 10 most field.0)

-- this field comes next
abbrev pub is_field : Name → List ℕ → Bool
is_field name text = is_some (without_front (name_text name) (word_of (without_blanks text)))

-- the number of a record, which may be left out where its bank has a next one below 2^32: it is that one then
unfoldable pub number_at : ℕ → List ℕ → Result (ℕ × List ℕ) Lack
number_at next text =
    if is_field names.Number text || nat_lt 0xffff_ffff next then decimal_at names.Number 0xffff_ffff text else Ok
    (next, text)

-- the version, which may be left out
unfoldable pub version_at : List ℕ → Result (Option ℕ × List ℕ) Lack
version_at text =
    if is_field names.Version text then (decimal_at names.Version 0xffff text >>= λ version. Ok
    (Some version.0, version.1))
    else Ok (None, text)

-- a number in hexadecimal digits behind 0x, below 2^64
abbrev pub hexadecimal_of : Option (List ℕ) → Option ℕ
hexadecimal_of (Some digits) = number_of 16 0xffff_ffff_ffff_ffff digits
hexadecimal_of None = None

unfoldable pub hexadecimal_at : Name → List ℕ → Result (ℕ × List ℕ) Lack
hexadecimal_at name text = do
  field ← field_at name text
  numbered due.Hexadecimal field.0 field.1 (hexadecimal_of (without_front (codes "0x") field.0))

-- ---- bytes

-- the bytes of these digits, where there are no more than the most
unfoldable pub bytes_of : ℕ → List ℕ → Option (List ℕ)
bytes_of most digits = if nat_lt most (length digits / 2) then None else result_ok
    (decode_sized digits (length digits / 2))

abbrev pub spelled : ℕ → List ℕ → List ℕ → Option (List ℕ) → Result (List ℕ × List ℕ) Lack
spelled most value rest (Some bytes) = Ok (bytes, rest)
spelled most value rest None = lacks (due.Bytes most) (length value + length rest)

-- the field of the bytes
unfoldable pub bytes_at : ℕ → List ℕ → Result (List ℕ × List ℕ) Lack
bytes_at most text = do
  field ← field_at names.Bytes text
  spelled most field.0 field.1 (bytes_of most field.0)

-- the bytes that an event carries: none where the line ends
unfoldable pub carried_at : ℕ → List ℕ → Result (List ℕ × List ℕ) Lack
carried_at most text = if is_over (without_blanks text) then Ok ([], text) else bytes_at most text

-- ---- masks

-- the masks that come, up to so many
unfoldable pub masks_at : ℕ → List ℕ → Result (List Mask × List ℕ) Lack
masks_at zero text = Ok ([], text)
masks_at (suc n) text =
    if is_field names.Mask text then (do
      mask ← hexadecimal_at names.Mask text
      others ← masks_at n mask.1
      Ok (record { 0 = mask.0 } ∷ others.0, others.1))
    else Ok ([], text)
