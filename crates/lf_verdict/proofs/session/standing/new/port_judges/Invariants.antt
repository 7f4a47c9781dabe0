use Rattle.std.proofs.Common.{◌≡◌, ◌<◌, ℕ, [], length, get_or}
use Rattle.lf_verdict.specs.declared.session.standing.port_judge.PortJudge.{PortJudge}
use Rattle.lf_verdict.specs.Standing.{IsPortJudged}
use Rattle.lf_verdict.proofs.session.standing.new.port_judges.Given as goal

abbrev pub invariant-loop-port : goal.invariant-loop-port
invariant-loop-port l = (length l.judges.items ≡ l.port) × ((port : ℕ) (d : PortJudge) → port < l.port →
    IsPortJudged l.shape port [] (get_or l.judges.items port d))
