-- The line of a configuration at which a key stands.
use Rattle.std.specs.Prelude.{ℕ, ◌+◌, ◌==◌, ◌&&◌, ◌||◌, Bool, true, false, nat_eq, List, [], ◌∷◌, length, drop, codes}
use Rattle.std.specs.Prelude.{Option, Some, None, is_some, option_and_then, if◌then◌else◌}
use Rattle.std.specs.Option.{option_map_or}
use Rattle.std.specs.List.{slice_split, prefix_len, starts_with, list_any, range_with_len}
use Rattle.lf_codec.specs.Checks.{byte_at}
use Rattle.explain_refusal.specs.declared.keys.Stand.{Stand}
use Rattle.explain_refusal.specs.declared.keys.Stand.TheVariants.{Top, Inside, Elsewhere}
use Rattle.explain_refusal.specs.Lines.{is_newline}

-- ---- the words of a line

abbrev pub is_blank : ℕ → Bool
is_blank b = b == 32 || b == 9

-- the line from its first word on
abbrev pub from_word : List ℕ → List ℕ
from_word line = drop (prefix_len is_blank line) line

-- the first word of the line begins so
abbrev pub begins : List ℕ → List ℕ → Bool
begins word line = starts_with nat_eq (from_word line) word

-- what stands behind these bytes, where the text begins with them
abbrev pub behind_bytes : List ℕ → List ℕ → Option (List ℕ)
behind_bytes bytes text = if starts_with nat_eq text bytes then Some (drop (length bytes) text) else None

-- what stands behind a word, where the line begins with it
abbrev pub behind_word : List ℕ → List ℕ → Option (List ℕ)
behind_word word line = behind_bytes word (from_word line)

-- the same of a name between two quotes
abbrev pub behind_quoted : List ℕ → List ℕ → List ℕ → Option (List ℕ)
behind_quoted quote name line =
    option_and_then (behind_bytes quote) (option_and_then (behind_bytes name) (behind_word quote line))

-- the same of a name, bare or in quotes
abbrev pub behind_name : List ℕ → List ℕ → Option (List ℕ)
behind_name name line =
    if begins (codes "\"") line then behind_quoted (codes "\"") name line
    else if begins (codes "'") line then behind_quoted (codes "'") name line
    else behind_word name line

-- ---- a line that says a key

-- a key ends here: its value follows, or the name of a part of it
abbrev pub ends_key : Option (List ℕ) → Bool
ends_key None = false
ends_key (Some rest) = begins (codes "=") rest || begins (codes ".") rest

-- the line has the name as its key
abbrev pub says_key : List ℕ → List ℕ → Bool
says_key name line = ends_key (behind_name name line)

-- what stands behind the name of the table and a word, where the line begins with them
abbrev pub behind_table : List ℕ → List ℕ → List ℕ → Option (List ℕ)
behind_table table word line = option_and_then (behind_word word) (behind_name table line)

-- the line has the names of the table and of the key, and a dot between them
abbrev pub says_dotted : List ℕ → List ℕ → List ℕ → Bool
says_dotted table name line = option_map_or (says_key name) (behind_table table (codes ".") line) false

-- in a table between braces a key follows a brace or a comma
abbrev pub is_opening : ℕ → Bool
is_opening b = b == 123 || b == 44

abbrev pub says_item : List ℕ → List ℕ → Bool
says_item name table =
    list_any (λ k. is_opening (byte_at k table) && says_key name (drop (k + 1) table))
    (range_with_len 0 (length table))

-- the line has the table between braces, with the key
abbrev pub says_inline : List ℕ → List ℕ → List ℕ → Bool
says_inline table name line = option_map_or (says_item name) (behind_table table (codes "=") line) false

-- the line begins the table
abbrev pub heads : List ℕ → List ℕ → Bool
heads table line = is_some (option_and_then (behind_table table (codes "]")) (behind_word (codes "[") line))

-- ---- the line of a key

abbrev pub is_empty : List ℕ → Bool
is_empty [] = true
is_empty (b ∷ bytes) = false

-- a line before each table says the key; a name of the whole text may be that of a table
abbrev pub says_top : List ℕ → List ℕ → List ℕ → Bool
says_top table name line =
    if is_empty table then says_key name line || heads name line
    else says_dotted table name line || says_inline table name line

-- a line that stands there says the key
abbrev pub says_at : Stand → List ℕ → List ℕ → List ℕ → Bool
says_at Top table name line = says_top table name line
says_at Inside table name line = says_key name line
says_at Elsewhere table name line = is_empty table && heads name line

-- where the next line stands: a line with a bracket begins a table
abbrev pub next_stand : Stand → List ℕ → List ℕ → Stand
next_stand stand table line =
    if begins (codes "[") line then (if heads table line then Inside else Elsewhere) else stand

-- the first of these lines that says the key, and its number; the first has number n
abbrev pub key_line : List ℕ → List ℕ → Stand → ℕ → List (List ℕ) → Option (ℕ × List ℕ)
key_line table name stand n [] = None
key_line table name stand n (line ∷ lines) =
    if says_at stand table name line then Some (n, line)
    else key_line table name (next_stand stand table line) (n + 1) lines

-- the first line of the text that says the key, and its number from 1 on
abbrev pub key_line_in : List ℕ → List ℕ → List ℕ → Option (ℕ × List ℕ)
key_line_in table name text = key_line table name Top 1 (slice_split is_newline text)
