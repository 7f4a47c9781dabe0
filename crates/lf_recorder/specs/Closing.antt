-- What a refused close says.
use Rattle.std.specs.Prelude.{◌≡◌, ◌<◌, ℕ, List}
use Rattle.lf_recorder.specs.declared.fault.CloseFault.{CloseFault}
use Rattle.lf_recorder.specs.declared.fault.CloseFault.TheVariants.{Missing, NoMemory}
use Rattle.lf_recorder.specs.Desk.{DeskView, SeatView, HasSeat, IsLowestWithout, logs_of}

-- the desk and the seats come back, with the lowest log without a seat, or where each log has one
abbrev pub HandsBack : DeskView → List SeatView → CloseFault → Type 0
HandsBack d seats (Missing log desk back) = IsLowestWithout seats (logs_of d) log × (desk ≡ d) × (back.items ≡ seats)
HandsBack d seats (NoMemory desk back) = ((log : ℕ) → log < logs_of d → HasSeat seats log) × (desk ≡ d) ×
    (back.items ≡ seats)
