-- What the reader's own steps do with the bytes of a piece.
use Rattle.std.specs.Prelude.{◌≡◌, ◌⊎◌, ◌==◌, ◌++◌, ◌∷◌, [], ℕ, ◌+◌, List, ◌<◌, ◌≤◌, false, Option, length, take}
use Rattle.std.specs.Prelude.{slice_index, Some, None, Result, Ok, Err}
use Rattle.lf_rules.specs.declared.event.Record.{Record}
use Rattle.lf_codec.specs.declared.fault.CodecCause.{CodecCause}
use Rattle.lf_codec.specs.declared.fault.CodecCause.TheVariants.{NoMemory}
use Rattle.lf_codec.specs.declared.fault.CodecFault.{CodecFault}
use Rattle.lf_codec.specs.declared.header.Header.{Header}
use Rattle.lf_codec.specs.declared.stage.Kind.{Kind}
use Rattle.lf_codec.specs.declared.stage.Head.{Head}
use Rattle.lf_codec.specs.declared.stage.Found.{Found}
use Rattle.lf_codec.specs.declared.progress.Progress.{Progress}
use Rattle.lf_codec.specs.declared.stage.Found.TheVariants as found
use Rattle.lf_codec.specs.declared.stage.Stage.TheVariants as stages
use Rattle.lf_codec.specs.Trace.{FitsIn}
use Rattle.lf_codec.specs.Layout.{record_bytes}
use Rattle.lf_codec.specs.Checks.{byte_at, judged, head_checks, fixed_checks, stage_checks}
use Rattle.lf_codec.specs.Steps.{fixed_len, data_len, head_at, record_of, counted, advanced}
use Rattle.lf_codec.specs.Reading.{Reading, stepped, end_of, truncated_at, byte_read, read_on, header_now}
use Rattle.lf_codec.specs.Reader.{HasOneMore, with_record}

-- a step gives a memory record or a record
abbrev pub GivesSome : Found → Type 0
GivesSome found.Nothing = ⊥
GivesSome _ = Unit {0}

-- the judgement of bytes without a fault
abbrev pub all_passed : Result (Unit {0}) CodecCause
all_passed = Ok tt

-- a growth was refused where the record that ends with this byte was to be kept
pub record IsRefused (old : Reading) (b : ℕ) (new : Reading) (fault : CodecFault) : Type 0 where
  pub cause : fault.cause ≡ NoMemory
  pub offset : fault.offset ≡ old.progress.offset
  pub in_hand : end_of old.progress.stage old.progress.offset ≡ truncated_at old.progress.offset
  pub passes : (byte_read old b).fault ≡ None
  pub one_more : HasOneMore old (byte_read old b)
  pub memory : new.memory ≡ old.memory
  pub records : new.records ≡ old.records
  pub header : header_now new ≡ header_now old

-- after some of the bytes a growth was refused
pub record WasRefused (old : Reading) (bytes : List ℕ) (new : Reading) : Type 0 where
  pub count : ℕ
  pub fault : CodecFault
  pub within : count < length bytes
  pub failed : new.fault ≡ Some fault
  pub refused : IsRefused (read_on old (take count bytes)) (slice_index bytes count) new fault
  pub fine : (read_on old (take count bytes)).fault ≡ None

-- a growth was refused where the next record begins
abbrev pub cut_short : Reading → Reading
cut_short r = record r { fault = Some (record { cause = NoMemory; offset = r.progress.offset }) }

-- so many of the bytes were read, and then a growth was refused
pub record WasCutShort (old : Reading) (bytes : List ℕ) (new : Reading) : Type 0 where
  pub count : ℕ
  pub within : count ≤ length bytes
  pub fine : (read_on old (take count bytes)).fault ≡ None
  pub is : new ≡ cut_short (read_on old (take count bytes))

-- what a piece does to a reader and the caller's records, seen as one
abbrev pub HasReadOn : Reading → List ℕ → Reading → Type 0
HasReadOn old bytes new = ((new ≡ read_on old bytes) ⊎ WasRefused old bytes new) ⊎ WasCutShort old bytes new

-- the records that wait are moved, which changes nothing of both as one, or a growth was refused
abbrev pub MovesAll : Reading → Result (Unit {0}) CodecFault → Reading → Type 0
MovesAll old (Ok _) new = new ≡ old
MovesAll old (Err fault) new = (new ≡ cut_short old) × (fault.cause ≡ NoMemory) × (new.fault ≡ Some fault)

-- at the front of these bytes the head of an event record stands whole, and its checks pass
pub record IsWholeHead (p : Progress) (bytes : List ℕ) (head : Head) (rest : List ℕ) : Type 0 where
  pub first : List ℕ
  pub joined : bytes ≡ first ++ rest
  pub first_whole : length first ≡ 8
  pub is_event : (byte_at 0 first == 0) ≡ false
  pub first_passes : judged (head_checks p.header p.counts first) ≡ all_passed
  pub head_is : head ≡ head_at first

-- at the front of the bytes behind a head the fixed part of its event and the bytes that it carries stand whole, and
-- its checks pass
pub record AreWholeParts (h : Header) (kind : Kind) (bank : ℕ) (bytes fixed carried : List ℕ) : Type 0 where
  pub more : List ℕ
  pub joined : bytes ≡ fixed ++ (carried ++ more)
  pub fixed_whole : length fixed ≡ fixed_len h kind
  pub fixed_passes : judged (fixed_checks h bank kind fixed) ≡ all_passed
  pub carried_whole : length carried ≡ data_len h kind fixed

-- at the front of these bytes an event record of so many bytes stands whole, and its checks pass
pub record IsWholeRecord (p : Progress) (bytes : List ℕ) (item : Record) (len : ℕ) : Type 0 where
  pub head : Head
  pub rest : List ℕ
  pub fixed : List ℕ
  pub carried : List ℕ
  pub at_front : IsWholeHead p bytes head rest
  pub behind : AreWholeParts p.header head.kind head.bank rest fixed carried
  pub item_is : item ≡ record_of p.header head fixed carried
  pub len_is : len ≡ 8 + length fixed + length carried

-- what the first bytes do, up to the end of a step or to the end of the piece
abbrev pub TakesPart : Reading → List ℕ → Result ℕ CodecFault → Reading → Type 0
TakesPart old bytes (Ok n) new = (0 < n) × (n ≤ length bytes) × (new ≡ read_on old (take n bytes)) × (new.fault ≡ None)
TakesPart old bytes (Err fault) new = (new.fault ≡ Some fault) × ((new ≡ read_on old bytes) ⊎ WasRefused old bytes new)

-- the same of a reader and the caller's records
abbrev pub PacksPart : Reading → List ℕ → Result ℕ CodecFault → Reading → Type 0
PacksPart old bytes (Ok n) new = TakesPart old bytes (Ok n) new
PacksPart old bytes (Err fault) new = (new.fault ≡ Some fault) × HasReadOn old bytes new

abbrev pub PacksAll : Reading → List ℕ → Result (Unit {0}) CodecFault → Reading → Type 0
PacksAll old bytes (Ok _) new = (new ≡ read_on old bytes) × (new.fault ≡ None)
PacksAll old bytes (Err fault) new = (new.fault ≡ Some fault) × HasReadOn old bytes new

-- a growth was refused where what these bytes give was to be kept
pub record IsUnkept (old : Reading) (bytes : List ℕ) (new : Reading) (fault : CodecFault) : Type 0 where
  pub cause : fault.cause ≡ NoMemory
  pub offset : fault.offset ≡ old.progress.offset
  pub passes : judged (stage_checks old.progress.stage old.progress bytes) ≡ all_passed
  pub gives_some : GivesSome (advanced old.progress.stage old.progress bytes).1
  pub memory : new.memory ≡ old.memory
  pub records : new.records ≡ old.records
  pub header : header_now new ≡ header_now old

-- what the bytes of a whole step do
abbrev pub TakesStep : Reading → List ℕ → Result (Unit {0}) CodecFault → Reading → Type 0
TakesStep old bytes (Ok _) new = (new ≡ stepped old bytes) × (new.fault ≡ None)
TakesStep old bytes (Err fault) new = (new.fault ≡ Some fault) ×
    ((new ≡ stepped old bytes) ⊎ IsUnkept old bytes new fault)

-- this is the record at the front of these bytes, of so many of them, and it is counted
pub record ReadsInto (old : Progress) (bytes : List ℕ) (n : ℕ) (item : Record) (new : Progress) : Type 0 where
  pub stage : old.stage ≡ stages.Head
  pub whole : IsWholeRecord old bytes item n
  pub is_counted : new ≡ counted old n item.log

-- the record of so many bytes at the front of these is read, and nothing else of the reader changes
pub record LendsPart (old : Reading) (bytes : List ℕ) (n : ℕ) (item : Record) (new : Reading) : Type 0 where
  pub takes : TakesPart old bytes (Ok n) (with_record (Some item) new)
  pub spelled : take n bytes ≡ record_bytes item
  pub fits : FitsIn old.progress.header item
  pub rest : new ≡ record old { progress = new.progress }
  pub header : header_now new ≡ header_now old

-- the record at the front of these bytes, of so many of them, is kept behind the others and counted
pub record PacksInto (old : Progress) (bytes : List ℕ) (n : ℕ) (before after : List Record) (new : Progress) : Type
    0 where
  pub item : Record
  pub is_kept : after ≡ before ++ item ∷ []
  pub stage : old.stage ≡ stages.Head
  pub whole : IsWholeRecord old bytes item n
  pub is_counted : new ≡ counted old n item.log

-- ... or nothing changes
abbrev pub MayPack : Progress → List ℕ → Option ℕ → List Record → List Record → Progress → Type 0
MayPack old bytes (Some n) before after new = PacksInto old bytes n before after new
MayPack old bytes None before after new = (new ≡ old) × (after ≡ before)
