-- The order of a no, of a trace that is read.
use Rattle.std.specs.Prelude.{◌≡◌, ℕ, ◌<◌, ◌≤◌, ◌↔◌, List, [], Option, Result, IfOk, IfErr, IsErrOf}
use Rattle.explain_lines.specs.declared.times.Times.{Times}
use Rattle.lf_codec.specs.Reader.{HasRead}
use Rattle.lf_codec.specs.Reading.{reading_of}
use Rattle.run_stream.specs.Account.{Account}
use Rattle.run_stream.specs.Gathered.{IsPartRead, IsAllRead}
use Rattle.text_dump.specs.Dump.{HasFault, piece_len}
use Rattle.wave_order.specs.declared.front.Front.{Front}
use Rattle.wave_order.specs.declared.sought.Sought.{Sought}
use Rattle.wave_order.specs.Left.{HasLeft}
use Rattle.wave_order.specs.OrderTo.{IsOrderTo}
use Rattle.wave_draw.specs.declared.fault.ViewFault.{ViewFault}
use Rattle.wave_draw.specs.declared.fault.ViewFault.TheVariants.{Read, Turns, Memory, Write, Order}
use Rattle.wave_draw.specs.declared.ordering.Split.{Split}

-- All records that stand in the bytes were read, and none has come.
pub record IsSplit (split : Split) (bytes : List ℕ) : Type 0 where
  pub read : HasRead split.reader bytes (reading_of bytes).memory (reading_of bytes).records
  pub no_memory : split.reader.memory ≡ []
  pub no_records : split.reader.records ≡ []
  pub left : HasLeft split.left [] (reading_of bytes).records

-- The order was made of all bytes that were to be read, from readers at two moments.
pub record IsOrdered (times : Option Times) (sought : Sought) (old new : Account) (front : Front) : Type 0 where
  pub bytes : List ℕ
  pub all : IsAllRead HasFault piece_len old new bytes
  pub order : IsOrderTo times sought (reading_of bytes).records front.logs.items front.reached

-- The reads answered these bytes, in which no fault stands.
pub record IsReadSoFar (old new : Account) : Type 0 where
  pub bytes : List ℕ
  pub part : IsPartRead HasFault old new bytes

-- What was read where it stopped. It writes nothing and follows no order.
abbrev pub IsOrderingStopped : Account → Account → ViewFault → Type 0
IsOrderingStopped old new Read = IsReadSoFar old new
IsOrderingStopped old new Turns = IsReadSoFar old new
IsOrderingStopped old new Memory = Unit {0}
IsOrderingStopped old new Write = ⊥
IsOrderingStopped old new Order = ⊥

-- The order of a no, within so many reads.
pub record IsOrdering (times : Option Times) (sought : Sought) (old new : Account) (turns : ℕ)
    (answer : Result Front ViewFault) : Type 0 where
  pub reads : new.calls ≤ turns
  pub ordered : IfOk answer (IsOrdered times sought old new)
  pub stopped : IfErr answer (IsOrderingStopped old new)
  -- When each fault comes.
  pub read : IsErrOf answer Read ↔ (0 < new.failures)
  pub turns_ran_out : IsErrOf answer Turns → new.calls ≡ turns
