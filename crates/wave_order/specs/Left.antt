-- The records that are left of each log, as their banks and numbers.
use Rattle.std.specs.Prelude.{◌≡◌, ℕ, ◌+◌, ◌<◌, ◌≤◌, ◌==◌, ◌||◌, not, nat_lt, nat_le, if◌then◌else◌, Bool, true, false, List, [], ◌∷◌, ◌++◌}
use Rattle.std.specs.Prelude.{length, map, slice_index, Option, Some, None}
use Rattle.lf_rules.specs.declared.event.Record.{Record}
use Rattle.lf_rules.specs.Address.{no_bank}
use Rattle.lf_rules.specs.Order.{log_at}
use Rattle.lf_rules.specs.Ring.{entry_of}
use Rattle.lf_rules.specs.Run.{of_log, of_bank}
use Rattle.explain_lines.specs.declared.times.Times.{Times}
use Rattle.wave_order.specs.declared.left.Left.{Left}
use Rattle.wave_order.specs.declared.left.Turn.{Turn}
use Rattle.wave_order.specs.declared.sought.Entry.{Entry}
use Rattle.wave_order.specs.OrderTo.{is_due, NoneMayCome, came, IsBefore, IsFirst}
use Rattle.wave_order.specs.OrderTo as orders
use Rattle.wave_order.specs.Ordered.{without_next}
use Rattle.wave_order.specs.Times.{came_of, rank_of}

-- the banks and numbers, log by log
abbrev pub queued : Left → List (List (ℕ × ℕ))
queued left = map (λ log. log.items) left.logs.items

-- it names no bank, or has the next number of its bank
abbrev pub is_due_at : List ℕ → ℕ × ℕ → Bool
is_due_at next entry = not (nat_lt entry.0 no_bank) || (entry.1 == slice_index next entry.0)

abbrev pub begins_due : List ℕ → List (ℕ × ℕ) → Bool
begins_due next [] = false
begins_due next (entry ∷ entries) = is_due_at next entry

-- the rank of the log's next record
abbrev pub rank_at : Option Times → Left → ℕ → ℕ
rank_at times left log = rank_of times log (came_of left.came.0 log)

-- the first of this one and of one of a lower log
abbrev pub or_earlier : Turn → Option Turn → Turn
or_earlier turn (Some other) = if nat_le other.rank turn.rank then other else turn
or_earlier turn None = turn

-- No other log's next record that may come is before that of this log.
abbrev pub IsEarliest : Option Times → Left → ℕ → Type 0
IsEarliest times left log = (other : ℕ) → begins_due left.next (log_at (queued left) other) ≡ true →
    ¬ IsBefore (rank_at times left other) other (rank_at times left log) log

-- After the records that are gone, these are left.
pub record HasLeft (left : Left) (gone records : List Record) : Type 0 where
  pub few : length left.logs.items ≤ 256
  pub sized : length left.next ≡ 256
  pub each : (log : ℕ) → log_at (queued left) log ≡ map entry_of (of_log log records)
  pub next : (bank : ℕ) → bank < no_bank → slice_index left.next bank ≡ length (of_bank bank gone)
  pub counted : length left.came.0 ≡ 256
  pub came : (log : ℕ) → log < 256 → came_of left.came.0 log ≡ came log gone

-- The log's next record comes, which is the first of those that may come.
pub record ComesFirst (times : Option Times) (gone records : List Record) (new : Left) (e : Entry) : Type 0 where
  pub item : Record
  pub rest : List Record
  pub first : of_log e.log records ≡ item ∷ rest
  pub is : e ≡ orders.entry_of item
  pub due : is_due gone item ≡ true
  pub earliest : IsFirst times gone records e.log
  pub left : HasLeft new (gone ++ item ∷ []) (without_next e.log records)

abbrev pub TakesFirst : Option Times → List Record → List Record → Left → Option Entry → Type 0
TakesFirst times gone records new None = NoneMayCome gone records
TakesFirst times gone records new (Some e) = ComesFirst times gone records new e

-- how many there are
abbrev pub count_left : List (List (ℕ × ℕ)) → ℕ
count_left [] = 0
count_left (log ∷ logs) = length log + count_left logs
