use Rattle.recorder_demo.proofs.demo.demo_trace.Goals as goal

pub returns-clause-demo : goal.returns-clause-demo
returns-clause-demo g c = record { logs = _; recording = c.in_ok-logs.ensures; trace = c.in_ok-count.ensures }
