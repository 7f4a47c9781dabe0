use Rattle.std.proofs.Common.{◌≡◌, ◌∙◌, ap}
use Rattle.std.proofs.lemmas.List.{length-map}
use Rattle.lf_recorder.specs.Desk.{DeskView, opened}
use Rattle.recorder_demo.proofs.Joined.{new_seats, recording_of}
use Rattle.recorder_demo.proofs.demo.recorded.Goals as goal

pub in_threads-requires-after_bounds : goal.in_threads-requires-after_bounds
in_threads-requires-after_bounds g c κs within =
    let desk = c.in_ok-desk.desk in
    let is_open : c.in_ok-recording.recording.desk ≡ opened desk = c.in_ok-recording.ensures.0 ∙ c.in-Ok.ensures.ok in
    new_seats desk c.in_ok-recording.recording.desk c.in-Ok.seats.items (ap (λ (d : DeskView). d.desk) is_open)
    c.in-Ok.ensures.seats.1

pub returns-in-Ok-close : goal.returns-in-Ok-close
returns-in-Ok-close g c =
    let desk = c.in_ok-desk.desk in
    let is_open : c.in_ok-recording.recording.desk ≡ opened desk = c.in_ok-recording.ensures.0 ∙ c.in-Ok.ensures.ok in
    let logs = c.in-Ok-close.logs in
    let closed = c.in-Ok-close.ensures in
    recording_of c.args.shape.now c.in_ok-recording.recording.places.shape desk c.in_ok-recording.recording.desk _
    c.in_ok-seats.seats.items is_open c.in_ok-desk.ensures.1
    c.in_ok-desk.ensures.2 c.in_ok-recording.ensures.1 c.in_ok-seats.ensures
    (length-map logs.items (λ log. log.items) ∙ closed.count) closed.recorded closed.kept closed.whole
