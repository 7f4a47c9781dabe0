-- What the threads of a demonstration take and give.
use Rattle.std.specs.Prelude.{◌≡◌, ◌<◌, ◌≤◌, [], OnOk}
use Rattle.lf_rules.specs.declared.shape.Shape.{Shape}
use Rattle.lf_recorder.specs.Desk.{DeskView, SeatView}
use Rattle.recorder_demo.specs.declared.port.Port.{Port}
use Rattle.recorder_demo.specs.declared.recording.Recorded.{Recorded}
use Rattle.recorder_demo.specs.Demo.{HasCome, IsPortLog, events_of}

-- a seat of this desk without a record
pub record IsNew (desk : DeskView) (seat : SeatView) : Type 0 where
  pub own : seat.desk ≡ desk.desk
  pub empty : seat.records ≡ []

-- the port counts the requests and the replies that its seat recorded
pub record Counts (shape : Shape) (port : Port) (seat : SeatView) : Type 0 where
  pub number : port.number ≡ seat.log
  pub few : port.issued ≤ 64
  pub owed : port.replied ≤ port.issued
  pub come : HasCome shape seat.log port.issued port.replied (events_of seat.records)

-- a seat of this desk that has all of a port's records, where it is a port's
pub record IsWholeSeat (shape : Shape) (desk : DeskView) (seat : SeatView) : Type 0 where
  pub own : seat.desk ≡ desk.desk
  pub port : seat.log < shape.ports → IsPortLog shape seat.log seat.records

-- what a thread gives: its seat, which is whole where the thread did not give up
pub record IsGivenBack (shape : Shape) (desk : DeskView) (recorded : Recorded) : Type 0 where
  pub own : recorded.seat.desk ≡ desk.desk
  pub whole : OnOk recorded.outcome (IsWholeSeat shape desk recorded.seat)
