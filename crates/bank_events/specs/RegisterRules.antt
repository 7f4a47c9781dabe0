-- The rules of a bank's level-two registers: by what a file holds, and by the requests that wait in it.
use Rattle.std.specs.Prelude.{ℕ, List, Option}
use Rattle.lf_rules.specs.declared.rule.Rule.{Rule}
use Rattle.lf_rules.specs.declared.shape.Shape.{Shape}
use Rattle.lf_rules.specs.Registers.{Held, primary_clauses, merge_clauses}
use Rattle.lf_rules.specs.Run.{first_failing}
use Rattle.lf_rules.specs.State.{Asked}
use Rattle.lf_rules.specs.Table.{OfBank, destinations2, position2}
use Rattle.lf_mshr.specs.Alike.{AreAlike}
use Rattle.lf_mshr.specs.RegisterFile.{RegisterFile, primary_wants, merge_wants}
use Rattle.lf_mshr.specs.declared.level_two.Request2.{Request2}
use Rattle.bank_events.specs.Targets.{IsTarget2}

-- so it is of any requests that wait in the file
abbrev pub OfAsked : Shape → RegisterFile Request2 → (List (Held Asked) → Type 0) → Type 0
OfAsked shape file Holds = (fetched : List (Held Asked)) → AreAlike (IsTarget2 shape) file.held fetched → Holds fetched

-- the first rule that a target breaks as a primary miss of a register of the file
abbrev pub second_primary_held : RegisterFile Request2 → ℕ → ℕ → Request2 → Option Rule
second_primary_held file register second target =
    first_failing OfBank (primary_wants (λ (r : Request2). r.position) (λ (r : Request2). r.destination) file register
    second target)

-- the same as a further miss
abbrev pub second_merge_held : RegisterFile Request2 → ℕ → ℕ → Request2 → Option Rule
second_merge_held file register second target =
    first_failing OfBank (merge_wants (λ (r : Request2). r.position) (λ (r : Request2). r.destination) file register
    second target)

-- the rule, by the requests that wait
abbrev pub second_primary_told : Shape → List (Held Asked) → ℕ → ℕ → Request2 → Option Rule
second_primary_told shape fetched register second target =
    first_failing OfBank (primary_clauses shape.level2.organisation (destinations2 shape) fetched second
    target.destination register)

abbrev pub second_merge_told : Shape → List (Held Asked) → ℕ → ℕ → Request2 → Option Rule
second_merge_told shape fetched register second target =
    first_failing OfBank
    (merge_clauses shape.level2.organisation (destinations2 shape) (position2 shape) fetched second target.destination
    target.position register)
