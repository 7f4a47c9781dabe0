-- The lines of a text, and that of an offset.
use Rattle.std.specs.Prelude.{ℕ, ◌+◌, ◌-◌, ◌==◌, ◌&&◌, not, Bool, nat_le, List, [], ◌∷◌, length, take, Option}
use Rattle.std.specs.Prelude.{Some, None, if◌then◌else◌}
use Rattle.std.specs.Borrow.{Bor}
use Rattle.std.specs.List.{slice_split, filter}

abbrev pub is_newline : ℕ → Bool
is_newline b = b == 10

-- the lines of what is left of a text, and how much that is
abbrev pub lines_in : Option (Bor (List ℕ)) → List (List ℕ)
lines_in None = []
lines_in (Some text) = slice_split is_newline text.now

abbrev pub left_in : Option (Bor (List ℕ)) → ℕ
left_in None = 0
left_in (Some text) = length text.now + 1

-- the byte is inside a character of several bytes
abbrev pub is_inside : ℕ → Bool
is_inside b = nat_le 128 b && nat_le b 191

-- how many characters begin in these bytes
abbrev pub characters : List ℕ → ℕ
characters bytes = length (filter (λ b. not (is_inside b)) bytes)

-- The line in which so many bytes of these lines end, with its number and its column; each line but the last has a
-- newline behind it, and the first has number n. A column counts characters from 1 on.
abbrev pub line_at : ℕ → ℕ → List (List ℕ) → Option (ℕ × (ℕ × List ℕ))
line_at n offset [] = None
line_at n offset (line ∷ lines) =
    if nat_le offset (length line) then Some (n, (characters (take offset line) + 1, line))
    else line_at (n + 1) (offset - (length line + 1)) lines

-- the line of the text in which so many bytes of it end, with its number from 1 on and its column
abbrev pub line_at_in : ℕ → List ℕ → Option (ℕ × (ℕ × List ℕ))
line_at_in offset text = line_at 1 offset (slice_split is_newline text)
