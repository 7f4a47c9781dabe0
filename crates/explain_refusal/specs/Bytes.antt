-- How bytes are listed.
use Rattle.std.specs.Prelude.{ℕ, false, nat_le, ◌/◌, ◌%◌, List, [], ◌∷◌, ◌++◌, length, take, codes, if◌then◌else◌}
use Rattle.std.specs.List.{flat_map}
use Rattle.std.specs.Fmt.{digits}

-- a blank, and two hexadecimal digits
abbrev pub spaced_byte : ℕ → List ℕ
spaced_byte byte = codes " " ++ digits 16 false (byte / 16) ++ digits 16 false (byte % 16)

abbrev pub spaced_bytes : List ℕ → List ℕ
spaced_bytes bytes = flat_map spaced_byte bytes

-- the first bytes, at most 32, and three dots where there are more
abbrev pub listed_bytes : List ℕ → List ℕ
listed_bytes [] = codes " none"
listed_bytes (b ∷ bytes) =
    if nat_le (length (b ∷ bytes)) 32 then spaced_bytes (b ∷ bytes) else spaced_bytes (take 32 (b ∷ bytes))
    ++ codes " ..."
