use Rattle.run_engine.proofs.Program.{program_on}
use Rattle.run_engine.proofs.commands.run_shape.Goals as goal

pub returns-clause-run : goal.returns-clause-run
returns-clause-run g c =
    let found = c.shape_with-found.ensures in
    rw c.verdict_in.ensures (program_on _ _ _ _ _ c.requires.calls c.requires.failures c.run_on.result
    c.args.shape.now c.args.workers c.shape_with-found.result
    (record { same = found.same; count = found.count; refusal = found.refusal }) c.run_on.ensures.run)
