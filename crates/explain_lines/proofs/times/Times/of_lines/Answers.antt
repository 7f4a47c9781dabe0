use Rattle.std.proofs.Common.{[]}
use Rattle.explain_lines.proofs.Adding.{refused_here, still_fine, still_tells}
use Rattle.explain_lines.proofs.times.Times.of_lines.Goals as goal

pub returns-in-Err-clause-err : goal.returns-in-Err-clause-err
returns-in-Err-clause-err c =
    refused_here c.args.lines.now c.loop-at.at (record { ref_ptr = (0, 0); now = [] }) c.loop-at-test.true
    c.loop-at.times c.loop-at.invariant.fault c.loop-at.invariant.times c.in-Err.cause c.in-Err.ensures

pub loop-at-preserved : goal.loop-at-preserved
loop-at-preserved c = record {
  fault =
      still_fine c.args.lines.now c.loop-at.at (record { ref_ptr = (0, 0); now = [] }) c.loop-at-test.true
      c.loop-at.times c.loop-at.invariant.fault c.loop-at.invariant.times c.in_default.ensures.0;
  times =
      still_tells c.args.lines.now c.loop-at.at (record { ref_ptr = (0, 0); now = [] }) c.loop-at-test.true
      c.loop-at.times c.loop-at.invariant.fault c.loop-at.invariant.times c.add.new.self c.in_default.ensures.1;
}
