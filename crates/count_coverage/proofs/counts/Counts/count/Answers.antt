use Rattle.count_coverage.specs.declared.point.Measure.TheVariants as measures
use Rattle.count_coverage.proofs.counts.Counts.count.Goals as goal

pub add_number-requires : goal.add_number-requires
add_number-requires c = record { few = λ n below. c.requires.few.of_numbers measures.DirtyBlocks n below }

pub add_number-requires-2 : goal.add_number-requires-2
add_number-requires-2 c = record { few = λ n below. c.requires.few.of_numbers measures.Registers n below }

pub add_number-requires-3 : goal.add_number-requires-3
add_number-requires-3 c = record { few = λ n below. c.requires.few.of_numbers measures.Targets n below }

pub add_number-requires-4 : goal.add_number-requires-4
add_number-requires-4 c = record { few = λ n below. c.requires.few.of_numbers measures.Field n below }

pub add_number-requires-5 : goal.add_number-requires-5
add_number-requires-5 c = record { few = λ n below. c.requires.few.of_numbers measures.MergePort n below }

pub add_number-requires-6 : goal.add_number-requires-6
add_number-requires-6 c = record { few = λ n below. c.requires.few.of_numbers measures.SecondTargets n below }

pub add_number-requires-7 : goal.add_number-requires-7
add_number-requires-7 c = record { few = λ n below. c.requires.few.of_numbers measures.SecondField n below }
