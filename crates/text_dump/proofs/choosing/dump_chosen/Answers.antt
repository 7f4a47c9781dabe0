use Rattle.std.proofs.Common.{◌≡◌, ◌≢◌, ◌<◌, Err, rules, ap}
use Rattle.run_stream.specs.Counted.{failures_of}
use Rattle.text_dump.specs.declared.fault.DumpFault.TheVariants.{Memory, Write}
use Rattle.text_dump.proofs.Ending.{dumped_with_line, dumped_without_line, not_some}
use Rattle.text_dump.specs.Dump.{no_memory_line}
use Rattle.text_dump.proofs.Stopping.{chosen_line}
use Rattle.text_dump.proofs.choosing.dump_chosen.Goals as goal

pub returns-in_err-put-clause-dumped : goal.returns-in_err-put-clause-dumped
returns-in_err-put-clause-dumped g c =
    let other : c.in-Err.fault ≢ Write = search rules in
    let is : c.from_residual.result ≡ Err Write = search rules in
    let failed : 0 < failures_of c.put.new.writer = search (rules, c.in_err-put.ensures.failed) in
    let prefix = rw c.stop_line.ensures at c.in_err-put.ensures.prefix in
    rw is (dumped_without_line _ _ _ _ _ _ _ c.in-Err.fault c.in-Err.ensures.dumped other prefix.0 failed prefix.1)

pub returns-clause-dumped : goal.returns-clause-dumped
returns-clause-dumped g c =
    let other : c.in-Err.fault ≢ Write = search rules in
    let none : failures_of c.put.new.writer ≡ 0 = search (rules, c.in_ok-put.ensures.failed) in
    dumped_with_line _ _ _ _ _ _ _ c.in-Err.fault c.in-Err.ensures.dumped other (not_some _ none)
    (rw c.stop_line.ensures at c.in_ok-put.ensures.whole)

pub returns-clause-memory : goal.returns-clause-memory
returns-clause-memory g c is =
    let same : c.in-Err.fault ≡ Memory = cc in
    let out = rw (c.stop_line.ensures, same) at c.in_ok-put.ensures.whole in
    let choice = c.args.choice in
    chosen_line choice.last choice _ _ _ _ _ no_memory_line out (c.in-Err.ensures.memory (ap Err same))
