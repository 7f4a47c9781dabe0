use Rattle.lf_verdict.proofs.Breaks.{none_broke_nothing}
use Rattle.lf_verdict.proofs.Lengths.{offset_of_first}
use Rattle.lf_verdict.proofs.session.standing.new.first_watch.Goals as goal

pub returns-then-watched-clause-watch : goal.returns-then-watched-clause-watch
returns-then-watched-clause-watch c shape memory = (none_broke_nothing shape memory, offset_of_first c.args.start)
