use Rattle.lf_recorder.proofs.desk.Desk.record.Given as goal

-- the event that is recorded
abbrev pub ghosts-draw : goal.ghosts-draw
ghosts-draw a = record { event = a.event.now }
