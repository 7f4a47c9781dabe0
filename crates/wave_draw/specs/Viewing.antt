-- The wave of a trace that is read in pieces.
use Rattle.std.specs.Prelude.{◌≡◌, ◌↔◌, ℕ, ◌<◌, ◌≤◌, Bool, true, false, List, [], ◌++◌, length, take, string_bytes}
use Rattle.std.specs.Prelude.{Option, Some, None, is_some, Result, Ok, Err}
use Rattle.std.specs.Prelude.{IfOk, IfErr, IsErrOf, IsTrue}
use Rattle.lf_rules.specs.declared.event.Record.{Record}
use Rattle.lf_codec.specs.declared.header.Header.{Header}
use Rattle.lf_codec.specs.declared.fault.CodecFault.{CodecFault}
use Rattle.lf_codec.specs.Laws.{AreBytes}
use Rattle.lf_codec.specs.Reader.{HasRead}
use Rattle.lf_codec.specs.Reading.{reading_of, header_of, header_now, trace_fault}
use Rattle.run_stream.specs.Account.{Account, WentOut}
use Rattle.run_stream.specs.Gathered.{IsPartRead, IsAllRead, EndsOnce}
use Rattle.text_dump.specs.Dump.{HasFault, IsNone, piece_len}
use Rattle.wave_signals.specs.Head.{head_text}
use Rattle.wave_signals.specs.Wave.{undrawn, drawn_after, wave_from}
use Rattle.wave_draw.specs.declared.fault.ViewFault.{ViewFault}
use Rattle.wave_draw.specs.declared.fault.ViewFault.TheVariants.{Read, Turns, Memory, Write, Order}
use Rattle.wave_draw.specs.declared.drawer.Drawer.{Drawer}
use Rattle.wave_draw.specs.declared.drawing.Drawing.{Drawing}
use Rattle.wave_order.specs.Ordered.{drawn_of, DrawsEach}
use Rattle.wave_draw.specs.Turns.{order_of, HasComeTo}

-- ---- the wave of some bytes

abbrev pub head_in : Drawing → Option Header → List ℕ
head_in drawing None = []
head_in drawing (Some h) = head_text (is_some drawing.times) drawing.view h.ports h.banks

-- the head, and what is shown of the records that the format reads from these bytes, with an order in that order
abbrev pub wave_of : Drawing → List ℕ → List ℕ
wave_of drawing bytes = head_in drawing (header_of bytes)
    ++ wave_from drawing.times (undrawn drawing.view) (drawn_of drawing.order (reading_of bytes).records)

-- The drawer was shown these bytes, and the wave of all that is due of them was drawn.
pub record IsDrawn (drawing : Drawing) (bytes : List ℕ) (drawer : Drawer) : Type 0 where
  pub read : HasRead drawer.reader bytes (reading_of bytes).memory (reading_of bytes).records
  pub no_memory : drawer.reader.memory ≡ []
  pub no_records : drawer.reader.records ≡ []
  pub begun : drawer.begun ≡ is_some (header_of bytes)
  pub times : drawer.times ≡ drawing.times
  pub order : order_of drawer.order ≡ drawing.order
  pub come : HasComeTo drawer.order (reading_of bytes).records
  pub wave : drawer.wave ≡ drawn_after (undrawn drawing.view) (drawn_of drawing.order (reading_of bytes).records)

-- what a drawer draws
abbrev pub drawing_of : Drawer → Drawing
drawing_of drawer = record { view = drawer.wave.view; times = drawer.times; order = order_of drawer.order }

-- the head, where it was not put yet
abbrev pub head_due : Bool → Drawing → Option Header → List ℕ
head_due true drawing h = []
head_due false drawing h = head_in drawing h

-- whether the head was put once this is the header
abbrev pub or_header : Bool → Option Header → Bool
or_header true h = true
or_header false h = is_some h

-- All that the reader has to give was taken after these records, and what is due was drawn.
pub record DrawsAll (old new : Drawer) (records : List Record) : Type 0 where
  pub reader : new.reader ≡ record old.reader { memory = []; records = [] }
  pub times : new.times ≡ old.times
  pub order : order_of new.order ≡ order_of old.order
  pub come : HasComeTo new.order (records ++ old.reader.records)
  pub due : List Record
  pub drawn : drawn_of (order_of old.order) (records ++ old.reader.records)
      ≡ drawn_of (order_of old.order) records ++ due
  pub wave : new.wave ≡ drawn_after old.wave due
  pub begun : new.begun ≡ or_header old.begun (header_now old.reader)
  pub text : string_bytes new.text ≡ string_bytes old.text
      ++ (head_due old.begun (drawing_of old) (header_now old.reader) ++ wave_from old.times old.wave due)

-- What a drawer answers at the end of these bytes.
abbrev pub Closes : Drawing → List ℕ → Result (Option CodecFault) ViewFault → Type 0
Closes drawing bytes (Ok fault) = (fault ≡ trace_fault bytes) ×
    (fault ≡ None → DrawsEach drawing.order (reading_of bytes).records)
Closes drawing bytes (Err fault) = (fault ≡ Order) × (trace_fault bytes ≡ None) ×
    ¬ DrawsEach drawing.order (reading_of bytes).records

-- ---- what was read and what went out, from readers and writers at two moments

-- The reads answered these bytes, in which no fault stands, and their wave went out.
pub record IsViewedSoFar (drawing : Drawing) (old new writer writer' : Account) : Type 0 where
  pub bytes : List ℕ
  pub part : IsPartRead HasFault old new bytes
  pub out : WentOut writer writer' (wave_of drawing bytes)

-- The wave of the bytes that the reads answered went out, but for those of at most one read at the end.
pub record IsViewedInPart (drawing : Drawing) (old new writer writer' : Account) : Type 0 where
  pub bytes : List ℕ
  pub more : List ℕ
  pub part : IsPartRead IsNone old new (bytes ++ more)
  pub few : length more ≤ piece_len
  pub out : WentOut writer writer' (wave_of drawing bytes)

-- The wave of the bytes that the reads answered went out as far as the writer took it.
pub record IsCutOff (drawing : Drawing) (old new writer writer' : Account) : Type 0 where
  pub bytes : List ℕ
  pub part : IsPartRead IsNone old new bytes
  pub count : ℕ
  pub out : WentOut writer writer' (take count (wave_of drawing bytes))

-- The whole wave went out of all bytes that were to be read, which have this fault. Where they are a trace, each record
-- was drawn.
pub record IsViewedWhole (drawing : Drawing) (old new writer writer' : Account) (fault : Option CodecFault) : Type
    0 where
  pub bytes : List ℕ
  pub are_bytes : AreBytes bytes
  pub all : IsAllRead HasFault piece_len old new bytes
  pub is_fault : fault ≡ trace_fault bytes
  pub each : fault ≡ None → DrawsEach drawing.order (reading_of bytes).records
  pub out : WentOut writer writer' (wave_of drawing bytes)

-- All bytes were read, they are a trace, and their whole wave went out, but the order does not name the records.
pub record IsOutOfOrder (drawing : Drawing) (old new writer writer' : Account) : Type 0 where
  pub bytes : List ℕ
  pub are_bytes : AreBytes bytes
  pub all : IsAllRead HasFault piece_len old new bytes
  pub no_fault : trace_fault bytes ≡ None
  pub other : ¬ DrawsEach drawing.order (reading_of bytes).records
  pub out : WentOut writer writer' (wave_of drawing bytes)

-- What went out where a view stopped.
abbrev pub IsStopped : Drawing → Account → Account → Account → Account → ViewFault → Type 0
IsStopped drawing old new writer writer' Read = IsViewedSoFar drawing old new writer writer'
IsStopped drawing old new writer writer' Turns = IsViewedSoFar drawing old new writer writer'
IsStopped drawing old new writer writer' Memory = IsViewedInPart drawing old new writer writer'
IsStopped drawing old new writer writer' Write = IsCutOff drawing old new writer writer'
IsStopped drawing old new writer writer' Order = IsOutOfOrder drawing old new writer writer'

-- A trace was viewed within so many reads.
pub record IsViewed (drawing : Drawing) (old new writer writer' : Account) (turns : ℕ)
    (answer : Result (Option CodecFault) ViewFault) : Type 0 where
  pub reads : new.calls ≤ turns
  -- A read that answers no bytes is the last one.
  pub once : EndsOnce old.pieces new.pieces
  pub whole : IfOk answer (IsViewedWhole drawing old new writer writer')
  pub stopped : IfErr answer (IsStopped drawing old new writer writer')
  -- When each fault comes.
  pub read : IsErrOf answer Read ↔ (0 < new.failures)
  pub turns_ran_out : IsErrOf answer Turns → new.calls ≡ turns
  pub write : IsErrOf answer Write ↔ (0 < writer'.failures)

-- What one more piece does, after these bytes.
abbrev pub Shows : Drawing → Account → Account → Drawer → List ℕ → List ℕ → Result Bool ViewFault → Type 0
Shows drawing old new drawer bytes piece (Ok enough) = IsDrawn drawing (bytes ++ piece) drawer ×
    (IsTrue enough ↔ HasFault (bytes ++ piece))
    × ((wave : List ℕ) × (wave_of drawing (bytes ++ piece) ≡ wave_of drawing bytes ++ wave) × WentOut old new wave)
Shows drawing old new drawer bytes piece (Err Write) =
    (wave : List ℕ) × (wave_of drawing (bytes ++ piece) ≡ wave_of drawing bytes ++ wave) ×
    ((n : ℕ) × WentOut old new (take n wave))
Shows drawing old new drawer bytes piece (Err Memory) = new ≡ old
Shows drawing old new drawer bytes piece (Err fault) = ⊥
