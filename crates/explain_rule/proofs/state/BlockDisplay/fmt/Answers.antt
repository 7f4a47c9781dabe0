use Rattle.std.proofs.Common.{sym}
use Rattle.std.proofs.Output.{has_written_of_eq}
use Rattle.explain_rule.specs.State.{block_text, heading_text, lines_text, registers_text, asked_text, memory_text}
use Rattle.explain_rule.proofs.Prefix.{grouped}
use Rattle.explain_rule.proofs.state.BlockDisplay.fmt.Goals as goal

pub returns-clause-writes : goal.returns-clause-writes
unfolding block_text
returns-clause-writes g c plain ok =
    let named = c.args.self.now.0.now in
    let state = named.state in
    has_written_of_eq _ _ _ _ _ (sym (grouped (heading_text named) (lines_text state) (registers_text state)
    (asked_text state) (memory_text state))) (c.write.ensures.writes plain ok)
