-- Records that are read again where their bytes stand.
use Rattle.std.specs.Prelude.{◌≡◌, ◌⊎◌, ℕ, ◌≤◌, List, [], ◌++◌, length, take, drop}
use Rattle.lf_rules.specs.Fits.{FitsRecord}
use Rattle.lf_rules.specs.declared.event.Record.{Record}
use Rattle.lf_codec.specs.declared.header.Header.{Header}
use Rattle.lf_codec.specs.declared.stage.Kind.{Kind}
use Rattle.lf_codec.specs.declared.stage.Head.{Head}
use Rattle.lf_codec.specs.Layout.{record_bytes}
use Rattle.lf_codec.specs.Sound.{most_data}
use Rattle.lf_codec.specs.Steps.{fixed_len, data_len, head_at, record_of}

-- these bytes begin with those of the record, which fits the header's ports, banks and sizes
pub record BeginWith (h : Header) (bytes : List ℕ) (item : Record) : Type 0 where
  pub fits : FitsRecord h.ports h.banks h.block h.factor item
  pub more : List ℕ
  pub joined : bytes ≡ record_bytes item ++ more

-- these bytes spell the record, or there are none
abbrev pub IsSpelling : List ℕ → Record → Type 0
IsSpelling bytes item = (bytes ≡ []) ⊎ (bytes ≡ record_bytes item)

-- ---- what serves the crate's own contracts

-- the fixed part at the front of the bytes behind a head, and the bytes that the event carries
abbrev pub fixed_in : Header → Kind → List ℕ → List ℕ
fixed_in h kind rest = take (fixed_len h kind) rest

abbrev pub carried_in : Header → Kind → List ℕ → List ℕ
carried_in h kind rest = take (data_len h kind (fixed_in h kind rest)) (drop (fixed_len h kind) rest)

-- both are there, and as long as an event of the kind may have them
pub record HoldParts (h : Header) (kind : Kind) (rest : List ℕ) : Type 0 where
  pub factor : h.factor ≤ 4
  pub fixed_whole : fixed_len h kind ≤ length rest
  pub carried_whole : data_len h kind (fixed_in h kind rest) ≤ length (drop (fixed_len h kind) rest)
  pub few : data_len h kind (fixed_in h kind rest) ≤ most_data h kind

-- the record of a head and of the parts at the front of the bytes behind it
abbrev pub record_in : Header → Head → List ℕ → Record
record_in h head rest = record_of h head (fixed_in h head.kind rest) (carried_in h head.kind rest)

-- the record at the front of these bytes
abbrev pub spelled_record : Header → List ℕ → Record
spelled_record h bytes = record_in h (head_at (take 8 bytes)) (drop 8 bytes)
