-- The records of a trace in an order, which names for each place the log whose next record comes there.
use Rattle.std.specs.Prelude.{◌≡◌, ℕ, ◌==◌, List, [], ◌∷◌, length, if◌then◌else◌, Option, Some, None}
use Rattle.std.specs.Global.{Vec}
use Rattle.lf_rules.specs.declared.event.Record.{Record}
use Rattle.lf_rules.specs.Run.{of_log}

-- the records without the next one of this log
abbrev pub without_next : ℕ → List Record → List Record
without_next log [] = []
without_next log (r ∷ records) = if r.log == log then records else r ∷ without_next log records

-- the first of these records and then the others, or nothing where there is no first
abbrev pub first_before : List Record → List Record → List Record
first_before [] others = []
first_before (r ∷ records) others = r ∷ others

-- the records in the order, up to a place whose log has no record left
abbrev pub in_order : List ℕ → List Record → List Record
in_order [] records = []
in_order (log ∷ order) records = first_before (of_log log records) (in_order order (without_next log records))

-- the others where there is a first, and all records where there is none
abbrev pub others_or_all : List Record → List Record → List Record → List Record
others_or_all [] others records = records
others_or_all (r ∷ rs) others records = others

-- the records that are left there
abbrev pub left_by : List ℕ → List Record → List Record
left_by [] records = records
left_by (log ∷ order) records = others_or_all (of_log log records) (left_by order (without_next log records)) records

-- The order has a place for each of these records, and no more.
pub record Names (order : List ℕ) (records : List Record) : Type 0 where
  pub all_places : length (in_order order records) ≡ length order
  pub all_records : left_by order records ≡ []

-- ---- with an order, or in that of the file

-- what is drawn of these records
abbrev pub drawn_of : Option (Vec ℕ) → List Record → List Record
drawn_of None records = records
drawn_of (Some order) records = in_order order.items records

-- All places and all records are drawn.
abbrev pub DrawsEach : Option (Vec ℕ) → List Record → Type 0
DrawsEach None records = Unit {0}
DrawsEach (Some order) records = Names order.items records
