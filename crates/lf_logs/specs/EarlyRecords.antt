-- The records that came before their turn.
use Rattle.std.specs.Prelude.{◌≡◌, ℕ, List, [], Option, Some, None, map, take, drop}
use Rattle.std.specs.Map.{lookup}
use Rattle.std.specs.BTreeMap.{is_at}
use Rattle.std.specs.Ordering.{nat_cmp}
use Rattle.std.specs.Global.{Box}
use Rattle.lf_rules.specs.declared.event.Record.{Record}
use Rattle.trace_early.specs.Table.{numbered_as}
use Rattle.lf_codec.specs.declared.header.Header.{Header}
use Rattle.lf_codec.specs.Lent.{BeginWith, record_in}
use Rattle.lf_codec.specs.Sound.{IsInRange}
use Rattle.lf_codec.specs.Steps.{head_at}

-- those that are kept, by number, and the header by which the bytes of some are read again
pub record EarlyRecords : Type 0 where
  pub header : Option Header
  pub records : List (ℕ × Record)

-- the record of this number
abbrev pub kept_at : EarlyRecords → ℕ → Option Record
kept_at early number = lookup (is_at (nat_cmp number)) early.records

-- ---- records that are kept as their bytes

-- the record that the bytes spell
abbrev pub spelled_by : Header → List ℕ → Record
spelled_by h bytes = record_in h (head_at (take 8 bytes)) (drop 8 bytes)

-- each of these bytes spells a record that fits the header
pub record AreSpellings (h : Header) (spelled : List (ℕ × List ℕ)) : Type 0 where
  pub range : IsInRange h
  pub each : (number : ℕ) (bytes : List ℕ) → numbered_as number spelled ≡ Some bytes → (item : Record) ×
      BeginWith h bytes item

-- it is so of the header that there is, and without one no bytes are kept
abbrev pub AreSpelled : Option Header → List (ℕ × List ℕ) → Type 0
AreSpelled None spelled = spelled ≡ []
AreSpelled (Some h) spelled = AreSpellings h spelled

abbrev pub read_again : Option Header → List (ℕ × List ℕ) → List (ℕ × Record)
read_again None spelled = []
read_again (Some h) spelled = map (λ e. (e.0, spelled_by h e.1)) spelled

-- ---- records that are kept whole

abbrev pub kept_whole : List (ℕ × Box Record) → List (ℕ × Record)
kept_whole whole = map (λ e. (e.0, e.1.value)) whole
