use Rattle.lf_join.proofs.RosterLemmas.{IsCalling}
use Rattle.lf_join.proofs.roster.Roster.call.Given as goal

abbrev pub invariant-loop-log : goal.invariant-loop-log
invariant-loop-log l = IsCalling l.initial.self l.self l.bank l.number l.called

abbrev pub decreases-loop-log : goal.decreases-loop-log
decreases-loop-log l = l.called.0
