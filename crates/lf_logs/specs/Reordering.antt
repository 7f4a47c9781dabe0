-- The records of a bank, as they are put into the order of their numbers.
use Rattle.std.specs.Prelude.{◌≡◌, ℕ, ◌<◌, ◌≤◌, ◌^◌, nat_lt, nat_le, Bool, true, ◌==◌, ◌||◌, if◌then◌else◌}
use Rattle.std.specs.Prelude.{List, [], ◌∷◌, length, slice_get, Option, Some, None, is_some}
use Rattle.std.specs.List.{AllByRecursion}
use Rattle.std.specs.Map.{lookup}
use Rattle.std.specs.BTreeMap.{is_at}
use Rattle.std.specs.Ordering.{nat_cmp}
use Rattle.lf_rules.specs.declared.event.Record.{Record}
use Rattle.lf_rules.specs.declared.shape.Shape.{Shape}
use Rattle.lf_rules.specs.Fits.{FitsRecord}
use Rattle.lf_rules.specs.Numbers.{numbers_of, IsDouble}
use Rattle.lf_codec.specs.declared.header.Header.{Header}

-- the first of the records that carries the number
abbrev pub first_with : ℕ → List Record → Option Record
first_with number [] = None
first_with number (r ∷ rs) = if r.number == number then Some r else first_with number rs

-- what is kept between two records
pub record Reordering : Type 0 where
  pub bank : ℕ
  -- the number of the next record that is given out
  pub next : ℕ
  -- the header by which the bytes of records are read again, where there is one
  pub header : Option Header
  -- the records that came before their turn, by number
  pub early : List (ℕ × Record)
  -- the least number that came more than once
  pub double : Option ℕ

-- the record, where one was given
abbrev pub if_given : Bool → Record → Option Record
if_given given item = if given then Some item else None

abbrev pub early_at : Reordering → ℕ → Option Record
early_at o number = lookup (is_at (nat_cmp number)) o.early

-- how many records wait
abbrev pub waiting_count : Reordering → ℕ
waiting_count o = length o.early

-- a record with this number was given out or waits
abbrev pub has_come : Reordering → ℕ → Bool
has_come o number = nat_lt number o.next || is_some (early_at o number)

-- the least number that came more than once, where this one did
abbrev pub least_double : Option ℕ → ℕ → Option ℕ
least_double None number = Some number
least_double (Some least) number = if nat_le least number then Some least else Some number

-- The number is the least that occurs more than once, or none does.
abbrev pub IsLeastDouble : List ℕ → Option ℕ → Type 0
IsLeastDouble numbers None = (k : ℕ) → ¬ IsDouble numbers k
IsLeastDouble numbers (Some least) = IsDouble numbers least × ((k : ℕ) → k < least → ¬ IsDouble numbers k)

-- These records were put in, and these were given out: of the numbers 0, 1, 2, .. the first record that came
-- with each. The first record that came with a later number waits.
pub record HasOrdered (o : Reordering) (put gave : List Record) : Type 0 where
  pub small : AllByRecursion (λ r. r.number < 2 ^ 32) put
  pub next : o.next ≡ length gave
  pub given : (k : ℕ) → k < length gave → slice_get gave k ≡ first_with k put
  pub waits : (k : ℕ) → length gave ≤ k → early_at o k ≡ first_with k put
  pub double : IsLeastDouble (numbers_of put) o.double

-- The same waits for each number, and nothing else has changed.
pub record IsAsBefore (old new : Reordering) : Type 0 where
  pub bank : new.bank ≡ old.bank
  pub next : new.next ≡ old.next
  pub header : new.header ≡ old.header
  pub double : new.double ≡ old.double
  pub early : (k : ℕ) → early_at new k ≡ early_at old k
  pub waiting : waiting_count new ≡ waiting_count old

-- ---- records that are kept as their bytes

-- how the records of a hierarchy are laid out
abbrev pub header_of : Shape → Header
header_of shape = record {
  version = 3;
  ports = shape.ports;
  banks = shape.banks;
  block = shape.block;
  factor = shape.factor;
  memory_count = 0;
}

-- the record fits the sizes of the header, where there is one
abbrev pub CanKeep : Option Header → Record → Type 0
CanKeep None item = Unit {0}
CanKeep (Some h) item = FitsRecord h.ports h.banks h.block h.factor item

-- ---- what serves the crate's own contracts

-- No number of a record that came before its turn is greater, and that of this number waits unless its turn is near.
pub record IsGreatestEarly (next : ℕ) (early : ℕ → Option Record) (greatest : ℕ) : Type 0 where
  pub above : (m : ℕ) → is_some (early m) ≡ true → m ≤ greatest
  pub waits : next < greatest → is_some (early greatest) ≡ true
