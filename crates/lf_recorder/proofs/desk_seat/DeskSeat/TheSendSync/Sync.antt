use denote.Param.Send.{IsSync, part_keyless}
use Rattle.lf_recorder.specs.contracts.desk_seat.DeskSeat.{the_row}
use Rattle.lf_recorder.proofs.DeskSeats.{aside_send}

pub sync : IsSync the_row
sync = record { shared = λ d b o κ q. part_keyless the_row aside_send q d b o }
