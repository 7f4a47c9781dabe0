-- Records that are lent.
use Rattle.std.specs.Prelude.{List, map}
use Rattle.std.specs.Borrow.{Bor}
use Rattle.lf_rules.specs.declared.event.Record.{Record}

-- the records that the references lead to
abbrev pub lent : List (Bor Record) → List Record
lent records = map (λ r. r.now) records
