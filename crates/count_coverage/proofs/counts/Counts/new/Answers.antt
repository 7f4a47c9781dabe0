use Rattle.std.proofs.Common.{◌≡◌, ℕ, List, get_or}
use Rattle.std.proofs.Math.ListN.{replicate}
use Rattle.count_coverage.specs.declared.point.Measure.{Measure}
use Rattle.count_coverage.specs.declared.point.Measure.TheVariants as measures
use Rattle.count_coverage.specs.declared.counts.Counts.{Counts}
use Rattle.count_coverage.specs.Counted.{numbers_of}
use Rattle.count_coverage.proofs.Counting.{none}
use Rattle.count_coverage.proofs.counts.Counts.new.Goals as goal

abbrev at_first : Counts
at_first =
    let zeros : List ℕ = replicate 65 0 in
    record {
      kinds = replicate 44 0;
      dirty_blocks = zeros;
      registers = zeros;
      targets = zeros;
      fields = zeros;
      merge_ports = zeros;
      second_targets = zeros;
      second_fields = zeros;
    }

none_of : (measure : Measure) (n : ℕ) → get_or (numbers_of at_first measure) n 0 ≡ 0
none_of measures.DirtyBlocks n = none 65 n
none_of measures.Registers n = none 65 n
none_of measures.Targets n = none 65 n
none_of measures.Field n = none 65 n
none_of measures.MergePort n = none 65 n
none_of measures.SecondTargets n = none 65 n
none_of measures.SecondField n = none 65 n

pub returns : goal.returns
returns c = record { of_kinds = λ n below. none 44 n; of_numbers = λ measure n below. none_of measure n }
