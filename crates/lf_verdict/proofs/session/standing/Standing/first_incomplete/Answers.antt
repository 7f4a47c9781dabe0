use Rattle.std.proofs.Common.{◌<◌, subst, arith}
use Rattle.lf_rules.specs.Order.{log_at}
use Rattle.lf_logs.specs.Incomplete.{IsLowestWaiting}
use Rattle.lf_verdict.specs.inner.Coming.{logs_so_far}
use Rattle.lf_verdict.proofs.Incompletes.{waiting_at, complete_more}
use Rattle.lf_verdict.proofs.session.standing.Standing.first_incomplete.Goals as goal

pub returns-in-Some : goal.returns-in-Some
returns-in-Some c shape memory records stands parts =
    let s = c.args.self.now in
    let port = c.loop-port.port in
    let lt : port < shape.ports = omega (
      arith,
      c.loop-port-test.true,
      c.len-port-end.ensures,
      stands.entered.count_ports,
    ) in (
      lt,
      subst (IsLowestWaiting (log_at (logs_so_far shape records) port)) c.in-Some.is
          (waiting_at shape memory records s stands parts port c.index-judge.result.now c.lowest_waiting.result
          c.index-judge.ensures lt c.lowest_waiting.ensures),
      c.loop-port.invariant shape memory records stands parts,
    )

pub loop-port-preserved : goal.loop-port-preserved
loop-port-preserved c shape memory records stands parts =
    let s = c.args.self.now in
    let port = c.loop-port.port in
    let lt : port < shape.ports = omega (
      arith,
      c.loop-port-test.true,
      c.len-port-end.ensures,
      stands.entered.count_ports,
    ) in
    complete_more shape memory records s stands parts port c.lowest_waiting.result
    (waiting_at shape memory records s stands parts port c.index-judge.result.now c.lowest_waiting.result
    c.index-judge.ensures lt c.lowest_waiting.ensures)
    c.in_default.not-Some (c.loop-port.invariant shape memory records stands parts)

pub returns : goal.returns
returns c shape memory records stands parts p lt =
    c.loop-port.invariant shape memory records stands parts p (omega
    (arith, c.loop-port-test.false, c.len-port-end.ensures, stands.entered.count_ports, lt))
