use denote.Param.Send.{IsSend}
use Rattle.lf_recorder.specs.contracts.desk_seat.DeskSeat.{the_row}
use Rattle.lf_recorder.proofs.DeskSeats.{aside_send}

pub send : IsSend the_row
send = aside_send
