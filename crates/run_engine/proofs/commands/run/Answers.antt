use Rattle.run_engine.proofs.Program.{program_for}
use Rattle.run_engine.proofs.commands.run.Goals as goal

pub returns-clause-run : goal.returns-clause-run
returns-clause-run g c =
    rw c.verdict_in.ensures (program_for _ _ _ _ _ c.requires.calls c.requires.failures c.run_for.result
    c.args.config.now c.args.workers c.run_for.ensures.run)
