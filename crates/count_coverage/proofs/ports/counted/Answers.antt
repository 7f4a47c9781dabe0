use Rattle.std.proofs.Common.{ℕ, ◌+◌, ◌≤◌, List, [], cond, length, get_or, sym, ap, ◌∙◌, arith}
use Rattle.std.proofs.lemmas.List.{take_all}
use Rattle.std.proofs.lemmas.Option.{slice_get_within}
use Rattle.lf_rules.specs.declared.event.Record.{Record}
use Rattle.lf_stats.proofs.Orders.{count_at, count_le}
use Rattle.count_coverage.specs.Points.{port_reaches, port_reached}
use Rattle.count_coverage.specs.Counted.{port_point_at}
use Rattle.count_coverage.proofs.ports.counted.Goals as goal

pub count-requires : goal.count-requires
count-requires g c =
    let log : List Record = get_or (g.L.LogRecords.lists c.args.logs.now) c.args.port [] in
    record {
      few = λ n h. omega (
        arith,
        c.loop-at.invariant n h,
        count_le (λ (r : Record). port_reaches (port_point_at n) r.event) log c.loop-at.at,
        c.requires.short,
        slice_get_within log c.loop-at.at c.lend.new.room c.lend.ensures,
      );
    }

pub loop-at-preserved : goal.loop-at-preserved
loop-at-preserved g c n h =
    let log : List Record = get_or (g.L.LogRecords.lists c.args.logs.now) c.args.port [] in
    let item : Record = c.lend.new.room in
    c.count.ensures n h
    ∙ ap (λ (k : ℕ). k + cond (port_reaches (port_point_at n) item.event) 1 0) (c.loop-at.invariant n h)
    ∙ sym (count_at (λ (r : Record). port_reaches (port_point_at n) r.event) log c.loop-at.at item c.lend.ensures)

pub returns : goal.returns
returns g c n h =
    let lists = g.L.LogRecords.lists c.args.logs.now in
    let log : List Record = get_or lists c.args.port [] in
    let done : length log ≤ c.loop-at.at = omega (
      arith,
      ap (λ n. length (get_or lists n [])) c.from.ensures,
      c.log_len-at-end.ensures,
      c.loop-at-test.false,
    ) in
    c.loop-at.invariant n h ∙ ap (λ rs. port_reached rs (port_point_at n)) (take_all c.loop-at.at log done)
