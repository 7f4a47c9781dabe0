-- The laws about runs.
use Rattle.std.specs.Prelude.{◌<◌, List}
use Rattle.lf_rules.specs.declared.shape.Shape.{Shape}
use Rattle.lf_rules.specs.declared.event.Record.{Record}
use Rattle.lf_rules.specs.Address.{FlatMemory}
use Rattle.lf_rules.specs.Fits.{Fits}
use Rattle.lf_rules.specs.Run.{IsRun}
use Rattle.lf_rules.specs.Copies.{IsCopyRun}
use Rattle.std.specs.List.{AllByRecursion}
use Rattle.lf_rules.specs.History.{IsFlat, IsOnce}
use Rattle.lf_rules.specs.Sharing.{IsSharing}

abbrev pub RunsAnswerOnce : Type 0
RunsAnswerOnce = (shape : Shape) (memory : FlatMemory) (rs : List Record) → IsRun shape memory rs → IsOnce shape rs

abbrev pub RunsShare : Type 0
RunsShare = (shape : Shape) (memory : FlatMemory) (rs : List Record) → IsRun shape memory rs → IsSharing shape memory rs

abbrev pub RunsAreFlat : Type 0
RunsAreFlat = (shape : Shape) (memory : FlatMemory) (rs : List Record) → IsRun shape memory rs → IsFlat shape memory rs

-- for a shape with some factor, as each in range has
abbrev pub CopyRunsAreRuns : Type 0
CopyRunsAreRuns = (shape : Shape) (memory : FlatMemory) (rs : List Record) → 0 < shape.factor →
    AllByRecursion (Fits shape) rs →
    IsCopyRun shape memory rs → IsRun shape memory rs
