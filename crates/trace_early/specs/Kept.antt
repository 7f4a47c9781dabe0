-- What chunks of bytes keep: some bytes one after another, each behind their length.
use Rattle.std.specs.Prelude.{◌≡◌, ℕ, ◌+◌, ◌*◌, ◌/◌, ◌%◌, ◌≤◌, ◌==◌, List, take, drop, length, slice_index}
use Rattle.std.specs.Prelude.{slice_index_or, count_by, All, []}

-- the length that stands at `start`, in two bytes with the low one first
abbrev pub length_at : List ℕ → ℕ → ℕ
length_at bytes start = slice_index bytes start + 256 * slice_index bytes (start + 1)

-- what stands behind it
abbrev pub item_at : List ℕ → ℕ → List ℕ
item_at bytes start = take (length_at bytes start) (drop (start + 2) bytes)

-- at `start` an item stands whole, behind its length
pub record IsAt (bytes : List ℕ) (start : ℕ) (item : List ℕ) : Type 0 where
  pub within : start + 2 + length_at bytes start ≤ length bytes
  pub same : item_at bytes start ≡ item

-- A place counts the multiples of four bytes in the chunks before it and in its own, of which a chunk has 16,384.
abbrev pub chunk_of : ℕ → ℕ
chunk_of place = place / 16384

abbrev pub start_of : ℕ → ℕ
start_of place = 4 * (place % 16384)

-- the bytes of a chunk, and how many of its items are kept
abbrev pub bytes_in : List (List ℕ × ℕ) → ℕ → List ℕ
bytes_in chunks chunk = (slice_index_or chunks chunk ([], 0)).0

abbrev pub count_in : List (List ℕ × ℕ) → ℕ → ℕ
count_in chunks chunk = (slice_index_or chunks chunk ([], 0)).1

-- an item stands at its place
abbrev pub StandsIn : List (List ℕ × ℕ) → ℕ × List ℕ → Type 0
StandsIn chunks kept = IsAt (bytes_in chunks (chunk_of kept.0)) (start_of kept.0) kept.1

-- The chunks keep just these items, each at its place: each stands there, and no chunk counts another.
pub record Keeps (chunks : List (List ℕ × ℕ)) (kept : List (ℕ × List ℕ)) : Type 0 where
  pub each : All (StandsIn chunks) kept
  pub counted : (chunk : ℕ) → count_by (λ e. chunk_of e.0 == chunk) kept ≡ count_in chunks chunk

-- what the chunks keep, they keep afterwards
abbrev pub KeepsOn : List (List ℕ × ℕ) → List (List ℕ × ℕ) → Type 0
KeepsOn chunks next = (kept : List (ℕ × List ℕ)) → Keeps chunks kept → Keeps next kept
