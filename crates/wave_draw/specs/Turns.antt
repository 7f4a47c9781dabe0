-- The records of a trace while they come: those whose turn it is are drawn, and the others wait.
use Rattle.std.specs.Prelude.{◌≡◌, ℕ, ◌+◌, ◌^◌, ◌<◌, List, [], ◌++◌, length, drop, map, Option, Some, None}
use Rattle.std.specs.Prelude.{option_to_list, IfNone, ◌⊎◌}
use Rattle.std.specs.List.{All}
use Rattle.std.specs.Global.{Vec}
use Rattle.lf_rules.specs.declared.event.Record.{Record}
use Rattle.lf_rules.specs.Run.{Interleaves}
use Rattle.wave_order.specs.declared.clock.Clock.{Clock}
use Rattle.wave_signals.specs.Wave.{Drawn, drawn_after, wave_from}
use Rattle.wave_draw.specs.declared.order.Order.{Order}
use Rattle.wave_draw.specs.declared.queues.Queues.{Queues}
use Rattle.wave_order.specs.Ordered.{in_order, left_by, drawn_of}

-- the records that wait, log by log
abbrev pub queued : Queues → List (List Record)
queued q = map (λ log. log.items) q.logs.items

-- the logs of the places that are left
abbrev pub rest_of : Order → List ℕ
rest_of order = drop order.next order.logs.items

-- A record waits behind the last place.
pub record IsPast (order : Order) : Type 0 where
  pub last : order.next ≡ length order.logs.items
  pub one_waits : ¬ All (λ log. log.items ≡ []) order.waiting.logs.items

-- The others wait, or some of them where there is no further place.
abbrev pub Waits : Order → List Record → Type 0
Waits order others = Interleaves (queued order.waiting) others ⊎ (IsPast order × ¬ (others ≡ []))

-- All these records came. Those whose turn it was went, and the others wait.
pub record HasCome (order : Order) (records : List Record) : Type 0 where
  pub next : order.next ≡ length (in_order order.logs.items records)
  pub waiting : Waits order (left_by order.logs.items records)

-- Of these, which wait, the record whose turn it is goes. Where it did not come, none does.
pub record TakesDue (old new : Order) (records : List Record) (item : Option Record) : Type 0 where
  pub left : List Record
  pub waiting : Interleaves (queued new.waiting) left
  pub taken : in_order (rest_of old) records ≡ option_to_list item ++ in_order (rest_of new) left
  pub others : left_by (rest_of old) records ≡ left_by (rest_of new) left
  pub none : IfNone item ((in_order (rest_of new) left ≡ []) × (left_by (rest_of new) left ≡ left))

-- Of these, which wait, all whose turn it is, one after another, are drawn.
pub record DrawsDue (times : Option Clock) (old new : Order) (wave wave' : Drawn) (text text' : List ℕ)
    (records : List Record) : Type 0 where
  pub next : new.next ≡ old.next + length (in_order (rest_of old) records)
  pub waiting : Interleaves (queued new.waiting) (left_by (rest_of old) records)
  pub shown : text' ≡ text ++ wave_from times wave (in_order (rest_of old) records)
  pub drawn : wave' ≡ drawn_after wave (in_order (rest_of old) records)

-- ---- with an order, or in that of the file

-- the order, as its logs
abbrev pub order_of : Option Order → Option (Vec ℕ)
order_of None = None
order_of (Some order) = Some order.logs

abbrev pub HasComeTo : Option Order → List Record → Type 0
HasComeTo None records = Unit {0}
HasComeTo (Some order) records = HasCome order records

-- The places of so many records more are counted.
abbrev pub HasRoom : Option Order → Drawn → ℕ → Type 0
HasRoom None wave count = wave.place + count < 2 ^ 63
HasRoom (Some order) wave count = wave.place ≡ order.next

-- After these records come more, and what is due then is drawn.
pub record DrawsMore (times : Option Clock) (old new : Option Order) (wave wave' : Drawn) (text text' : List ℕ)
    (records more : List Record) : Type 0 where
  pub come : HasComeTo new (records ++ more)
  pub due : List Record
  pub drawn : drawn_of (order_of old) (records ++ more) ≡ drawn_of (order_of old) records ++ due
  pub shown : text' ≡ text ++ wave_from times wave due
  pub after : wave' ≡ drawn_after wave due
