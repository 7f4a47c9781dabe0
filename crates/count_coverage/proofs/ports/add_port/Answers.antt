use Rattle.std.proofs.Common.{ℕ, [], get_or, ap}
use Rattle.count_coverage.specs.declared.point.PortPoint.TheVariants.{Load}
use Rattle.count_coverage.specs.declared.point.Point.TheVariants.{Port}
use Rattle.count_coverage.specs.declared.tally.Tally.{Tally}
use Rattle.count_coverage.specs.Coverage.{port_tally}
use Rattle.count_coverage.specs.Counted.{port_point_at}
use Rattle.count_coverage.specs.Reachable.{port_points}
use Rattle.count_coverage.proofs.Tallies.{mapped_next}
use Rattle.count_coverage.proofs.ports.add_port.Goals as goal

tally_at : ℕ → ℕ → ℕ → Tally
tally_at port i count = record { point = Port port (port_point_at i); count = count }

pub loop-i-preserved : goal.loop-i-preserved
unfolding tally_at
loop-i-preserved g c =
    let i = c.loop-i.i in
    mapped_next c.args.tallies.now.items c.loop-i.tallies.items c.push.new.self.items
    (port_tally c.args.port (get_or (g.L.LogRecords.lists c.args.logs.now) c.args.port [])) port_points i (Load 0)
    (tally_at c.args.port i (get_or c.counted-counts.result i 0))
    c.loop-i-test.true c.loop-i.invariant c.in_ok-push.ensures.items
    (ap (tally_at c.args.port i) (c.counted-counts.ensures i c.loop-i-test.true))
