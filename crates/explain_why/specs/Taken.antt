-- What was taken from a reader.
use Rattle.std.specs.Prelude.{◌≡◌, ℕ, List, []}
use Rattle.lf_rules.specs.declared.event.Record.{Record}
use Rattle.lf_rules.specs.Fits.{Bytes}
use Rattle.lf_codec.specs.Reading.{Reading}
use Rattle.lf_codec.specs.Reader.{HasRead}

-- The reader was fed these bytes, and all that it found in them was taken: this memory and these records.
pub record HasTakenAll (r : Reading) (fed : List ℕ) (memory : List (ℕ × Bytes)) (records : List Record) : Type 0 where
  pub read : HasRead r fed memory records
  pub no_memory : r.memory ≡ []
  pub no_records : r.records ≡ []
