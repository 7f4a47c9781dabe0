-- Which records may come next, and the logs of those that came.
use Rattle.std.specs.Prelude.{ℕ, ◌+◌, ◌<◌, ◌≤◌, ◌^◌, ◌++◌, List, [], ◌∷◌, length, Result, OnOk}
use Rattle.std.specs.List.{All}
use Rattle.lf_rules.specs.declared.shape.Shape.{Shape}
use Rattle.lf_rules.specs.declared.event.Record.{Record}
use Rattle.lf_rules.specs.Address.{FlatMemory}
use Rattle.lf_rules.specs.Fits.{Fits}
use Rattle.lf_rules.specs.InRange.{IsShape}
use Rattle.lf_rules.specs.Order.{log_at}
use Rattle.lf_rules.specs.Run.{of_log}
use Rattle.lf_logs.specs.Lists.{logs_of}
use Rattle.lf_verdict.specs.declared.session.standing.log_entries.Entries.{Entries}
use Rattle.lf_verdict.specs.declared.session.standing.Standing.{Standing}
use Rattle.lf_verdict.specs.Standing.{AreKept, AreEntered, StandsAfterAll}

-- The record may come next: it fits, and its log has room for it.
pub record MayCome (shape : Shape) (records : List Record) (r : Record) : Type 0 where
  pub fits : Fits shape r
  pub room : length (of_log r.log records) < 2 ^ 24

-- ... and behind it each of these in its turn
abbrev pub MayAllCome : Shape → List Record → List Record → Type 0
MayAllCome shape records [] = Unit {0}
MayAllCome shape records (r ∷ rs) = MayCome shape records r × MayAllCome shape (records ++ r ∷ []) rs

-- It is one of some logs whose entries are kept as far as they must, and is not too long.
pub record HasLog (log : ℕ) (entries : Entries) : Type 0 where
  pub skeletons : List (List (ℕ × ℕ))
  pub kept : AreKept skeletons entries
  pub few : length skeletons ≤ 32
  pub inside : log < length skeletons
  pub short : length (log_at skeletons log) ≤ 2 ^ 24

-- The entries of these logs are kept as far as they must, and none of the logs is too long.
pub record AreAllKept (skeletons : List (List (ℕ × ℕ))) (entries : Entries) : Type 0 where
  pub kept : AreKept skeletons entries
  pub few : length skeletons ≤ 32
  pub short : All (λ log. length log ≤ 2 ^ 24) skeletons

-- Some records of a trace came, and this one may come next.
pub record CanEnter (item : Record) (entries : Entries) : Type 0 where
  pub shape : Shape
  pub records : List Record
  pub may : MayCome shape records item
  pub entered : AreEntered shape records entries

-- ... and the banks were judged on those that came.
pub record CanStand (item : Record) (s : Standing) : Type 0 where
  pub shape : Shape
  pub memory : FlatMemory
  pub records : List Record
  pub may : MayCome shape records item
  pub stands : StandsAfterAll shape memory records s

-- Some records of a trace came, and these may come next.
abbrev pub CanEnterAll : List Record → Entries → Type 0
CanEnterAll records entries = (shape : Shape) × ((before : List Record) ×
    (MayAllCome shape before records × AreEntered shape before entries))

-- They came too, unless memory ran out.
abbrev pub EntersAll : {F : Type 0} → List Record → Entries → Result (Unit {0}) F → Entries → Type 0
EntersAll records old result new = (shape : Shape) (before : List Record) → MayAllCome shape before records →
    AreEntered shape before old
    → OnOk result (AreEntered shape (before ++ records) new)

-- the logs of the records that came
abbrev pub logs_so_far : Shape → List Record → List (List Record)
logs_so_far shape records = logs_of (shape.ports + shape.banks) records

-- The shape is in range, and no log has more records than a trace may have.
pub record IsShort (shape : Shape) (records : List Record) : Type 0 where
  pub in_range : IsShape shape
  pub short : (log : ℕ) → length (of_log log records) ≤ 2 ^ 24

-- The records that came may be all of a trace.
pub record CanEnd (s : Standing) : Type 0 where
  pub shape : Shape
  pub memory : FlatMemory
  pub records : List Record
  pub stands : StandsAfterAll shape memory records s
  pub short : IsShort shape records
