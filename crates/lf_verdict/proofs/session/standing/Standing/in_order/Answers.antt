use Rattle.std.proofs.Common.{arith}
use Rattle.std.proofs.lemmas.Result.{err_from_is_err_and}
use Rattle.lf_verdict.proofs.Settled.{order_fits}
use Rattle.lf_verdict.proofs.session.standing.Standing.in_order.Goals as goal

pub returns-in_err-count_in_order-clause-fault : goal.returns-in_err-count_in_order-clause-fault
returns-in_err-count_in_order-clause-fault c shape memory records stands short =
    let p = err_from_is_err_and c.from_residual.result c.from_residual.ensures.1 in
    rw (p.1, p.2) (c.in_err-count_in_order.ensures.fault shape memory records stands short)

pub returns-then-not-self-clause-order : goal.returns-then-not-self-clause-order
returns-then-not-self-clause-order c shape memory records stands short =
    record { has = c.in_ok-count_in_order.ensures.order shape memory records stands short; least = tt }

pub returns-in_err-order-clause-fault : goal.returns-in_err-order-clause-fault
returns-in_err-order-clause-fault c shape memory records stands short =
    let p = err_from_is_err_and c.from_residual-in_err-order.result c.from_residual-in_err-order.ensures.1 in
    rw (p.1, p.2) (c.in_err-order.ensures.fault shape memory records stands short)

pub overflow_cast-result : goal.overflow_cast-result
overflow_cast-result c =
    let r = c.requires in
    let order = (c.in_ok-order.ensures.order r.shape r.memory r.records r.stands r.short).least.is_order in
    omega (
      arith,
      c.len.ensures,
      order_fits r.shape r.memory r.records c.args.self.now r.stands r.short c.in_ok-order.order.items
          order.entries order.taken,
    )

pub returns-clause-order : goal.returns-clause-order
returns-clause-order c shape memory records stands short =
    let is = c.in_ok-order.ensures.order shape memory records stands short in
    record {
      has = record {
        parts = is.parts;
        order = c.in_ok-order.order.items;
        is_order = is.least.is_order;
        count = omega (arith, c.len.ensures);
      };
      least = (is.least, omega (arith, c.len.ensures));
    }
