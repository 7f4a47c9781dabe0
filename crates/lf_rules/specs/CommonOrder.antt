-- Logs of one recording.
use Rattle.std.specs.Prelude.{ℕ, ◌<◌, List}
use Rattle.lf_rules.specs.declared.event.Record.{Record}
use Rattle.lf_rules.specs.declared.ring.Knot.{Knot}
use Rattle.lf_rules.specs.Address.{no_bank}
use Rattle.lf_rules.specs.Run.{Interleaves, KeepsNumbers}
use Rattle.lf_rules.specs.Numbers.{bank_numbers, IsMissing, IsDouble}
use Rattle.lf_rules.specs.Ring.{skeletons_of, IsRing}

-- there is one list of all records in which each log has its order, and each bank its numbers
pub record HasCommonOrder (logs : List (List Record)) : Type 0 where
  pub all : List Record
  pub interleaves : Interleaves logs all
  pub numbers : KeepsNumbers all

-- no number of a bank is missing or double, and no logs wait for one another
pub record IsFreeOfFaults (logs : List (List Record)) : Type 0 where
  pub none_missing : (bank k : ℕ) → bank < no_bank → IsMissing (bank_numbers logs bank) k → ⊥
  pub none_double : (bank k : ℕ) → bank < no_bank → IsDouble (bank_numbers logs bank) k → ⊥
  pub no_ring : (ring : List Knot) → IsRing (skeletons_of logs) ring → ⊥

abbrev pub CollectedLogsAreFree : Type 0
CollectedLogsAreFree = (logs : List (List Record)) → HasCommonOrder logs → IsFreeOfFaults logs
