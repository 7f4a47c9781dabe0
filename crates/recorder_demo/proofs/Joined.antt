-- What the threads take, what they gave, and the logs that their seats had.
use Rattle.std.proofs.Common.{◌≡◌, ℕ, ◌+◌, ◌<◌, List, [], length, get_or, sym, ap, ◌∙◌, subst, arith}
use Rattle.std.specs.Prelude.{All, Some, slice_get, slice_index_or}
use Rattle.std.specs.PromisedHandle.{KeepsAt, KeepsEach}
use Rattle.std.specs.declared.thread.PromisedHandle.{PromisedHandle}
use Rattle.std.specs.declared.thread.Promise as Promise
use Rattle.std.proofs.lemmas.Option.{get_or_from_slice_get}
use Rattle.lf_rules.specs.declared.shape.Shape.{Shape}
use Rattle.lf_rules.specs.declared.event.Record.{Record}
use Rattle.lf_recorder.specs.Desk.{DeskView, SeatView, AreNewSeats, HasSeat, HoldSeats, new_seat, opened, logs_of}
use Rattle.recorder_demo.specs.declared.demo.RecordedBy.{RecordedBy}
use Rattle.recorder_demo.specs.declared.recording.Recorded.{Recorded}
use Rattle.lf_rules.specs.CommonOrder.{HasCommonOrder}
use Rattle.recorder_demo.specs.Demo.{IsPortLog, IsRecording}
use Rattle.recorder_demo.specs.Threads.{IsNew, IsGivenBack, IsWholeSeat}

-- the promise is about this shape and this desk
abbrev pub IsFor : Shape → DeskView → RecordedBy → Type 0
IsFor shape desk p = (p.recording.now.places.shape ≡ shape) × (p.recording.now.desk ≡ desk)

module _ (shape : Shape) (desk : DeskView) (g : Promise.Ghosts RecordedBy Recorded)
    (says : (p : RecordedBy) (r : Recorded) → g.kept_by p r →
    IsGivenBack p.recording.now.places.shape p.recording.now.desk r)
    (hs : List (PromisedHandle Recorded RecordedBy)) (mine : All
    (λ (h : PromisedHandle Recorded RecordedBy). IsFor shape desk h.promise) hs) where
  one_recorded : (i : ℕ) (r : Recorded) → i < length hs → KeepsAt g hs i r → IsGivenBack shape desk r
  one_recorded i r inside kept =
      let own : IsFor shape desk kept.handle.promise = subst
      (λ (h : PromisedHandle Recorded RecordedBy). IsFor shape desk h.promise) (sym kept.handle_is)
      (mine i kept.handle inside) in
      let done : IsGivenBack kept.handle.promise.recording.now.places.shape kept.handle.promise.recording.now.desk r =
      says kept.handle.promise r kept.kept in
      subst (λ (z : Shape × DeskView). IsGivenBack z.0 z.1 r) (λ k. (own.0 k, own.1 k)) done

  pub each_recorded : (n : ℕ) (rs : List Recorded) → n ≡ length hs → length rs ≡ n → KeepsEach g n hs rs →
      All (IsGivenBack shape desk) rs
  each_recorded n rs here same each i d inside = one_recorded i (get_or rs i d) (omega arith) (each i d (omega arith)).1

-- the seats that a desk gives out are new
pub new_seats : (desk after : DeskView) (seats : List SeatView) → after.desk ≡ desk.desk →
    AreNewSeats desk.desk seats → All (IsNew after) seats
new_seats desk after seats same each i d inside =
    let seat : get_or seats i d ≡ new_seat desk.desk i = get_or_from_slice_get seats i _ d (each i inside) in record {
      own = ap (λ (s : SeatView). s.desk) seat ∙ sym same;
      empty = ap (λ (s : SeatView). s.records) seat;
    }

-- the log of each port is that of its seat
pub port_logs : (shape : Shape) (desk : DeskView) (logs : List (List Record)) (seats : List SeatView) (port : ℕ) →
    All (IsWholeSeat shape desk) seats → HoldSeats logs seats
    → HasSeat seats port → port < shape.ports → IsPortLog shape port (slice_index_or logs port [])
port_logs shape desk logs seats port whole hold (k, s, inside, here, is) of_port =
    let own : IsWholeSeat shape desk s = subst (IsWholeSeat shape desk) here (whole k s inside) in
    let log : slice_get logs s.log ≡ Some s.records = subst (λ (z : SeatView). slice_get logs z.log ≡ Some z.records)
    here (hold k s inside) in
    let records : slice_index_or logs port [] ≡ s.records =
    ap (λ n. slice_index_or logs n []) (sym is) ∙ get_or_from_slice_get logs s.log s.records [] log in
    let mine : IsPortLog shape s.log s.records = own.port (let e = is in omega arith) in
    subst (λ (z : ℕ × List Record). IsPortLog shape z.0 z.1) (λ i. (is i, sym records i)) mine

-- the logs of a desk whose seats are whole are a recording
pub recording_of : (shape kept : Shape) (made desk : DeskView) (logs : List (List Record)) (seats : List SeatView) →
    desk ≡ opened made → made.ports ≡ shape.ports → made.banks ≡ shape.banks
    → kept ≡ shape → All (IsWholeSeat kept desk) seats → length logs ≡ logs_of desk → HasCommonOrder logs →
    HoldSeats logs seats → ((log : ℕ) → log < logs_of desk → HasSeat seats log)
    → IsRecording shape logs
recording_of shape kept made desk logs seats is_open ports banks same whole count order hold each =
    let few : logs_of desk ≡ shape.ports + shape.banks = ap logs_of is_open ∙ omega (arith, ports, banks) in record {
      count = count ∙ few;
      common_order = order;
      ports = λ port of_port. port_logs shape desk logs seats port
          (subst (λ (s : Shape). All (IsWholeSeat s desk) seats) same whole) hold
          (each port (omega (arith, few, of_port))) of_port;
    }
