-- Records in the form of their bytes.
use Rattle.std.specs.Prelude.{◌≡◌, ◌++◌, ℕ, ◌+◌, ◌≤◌, List, length, take, drop, map}
use Rattle.std.specs.List.{AllByRecursion}
use Rattle.lf_rules.specs.Fits.{FitsRecord}
use Rattle.lf_rules.specs.declared.event.Record.{Record}
use Rattle.lf_codec.specs.declared.header.Header.{Header}
use Rattle.lf_codec.specs.declared.packed.Form.{Form}
use Rattle.lf_codec.specs.declared.packed.Form.TheVariants.{Spelled, Apart}
use Rattle.lf_codec.specs.Layout.{record_bytes}
use Rattle.lf_codec.specs.Lent.{spelled_record}
use Rattle.lf_codec.specs.Sound.{IsInRange}

-- what callers see: the records. Those that stood whole in a piece fit this header, and stand among these bytes
pub record PackedRecords : Type 0 where
  pub header : Header
  pub bytes : List ℕ
  pub records : List Record

-- the bytes of a record that fits the header's ports, banks and sizes
pub record SpellOne (h : Header) (bytes : List ℕ) : Type 0 where
  pub in_range : IsInRange h
  pub item : Record
  pub fits : FitsRecord h.ports h.banks h.block h.factor item
  pub spelled : bytes ≡ record_bytes item

abbrev pub slice_of : List ℕ → ℕ → ℕ → List ℕ
slice_of bytes at len = take len (drop at bytes)

-- the record, whatever form it is kept in
abbrev pub form_record : Header → List ℕ → Form → Record
form_record h bytes (Spelled start len) = spelled_record h (slice_of bytes start len)
form_record h bytes (Apart r) = r.value

-- these are the last of all the bytes
pub record StandLast (bytes last : List ℕ) : Type 0 where
  pub front : List ℕ
  pub joined : bytes ≡ front ++ last

-- its own bytes are among the bytes
abbrev pub IsWithin : Header → List ℕ → Form → Type 0
IsWithin h bytes (Spelled start len) = (start + len ≤ length bytes) × SpellOne h (slice_of bytes start len)
IsWithin h bytes (Apart r) = Unit {0}

abbrev pub records_in_forms : Header → List ℕ → List Form → List Record
records_in_forms h bytes forms = map (form_record h bytes) forms

abbrev pub AreWithin : Header → List ℕ → List Form → Type 0
AreWithin h bytes forms = AllByRecursion (IsWithin h bytes) forms
