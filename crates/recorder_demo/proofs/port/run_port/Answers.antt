use Rattle.recorder_demo.proofs.Coming.{whole_log}
use Rattle.recorder_demo.proofs.port.run_port.Goals as goal

pub returns-clause-whole : goal.returns-clause-whole
returns-clause-whole g c = whole_log c.args.recording.now.places.shape c.events.port c.events.seat c.record.new.seat _
    _ c.events.invariant.counts c.events-test.false c.in_ok-record.ensures.ok
