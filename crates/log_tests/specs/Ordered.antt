-- What a test keeps of records that come by their numbers.
use Rattle.std.specs.Prelude.{List}
use Rattle.lf_rules.specs.declared.event.Record.{Record}
use Rattle.lf_logs.specs.Reordering.{Reordering, HasOrdered}

-- some records were put in and given out
abbrev pub IsInOrder : Reordering → Type 0
IsInOrder o = (put : List Record) × (gave : List Record) × HasOrdered o put gave
