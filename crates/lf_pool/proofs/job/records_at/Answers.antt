use Rattle.std.proofs.Common.{◌∷◌, [], length, ap, arith, length-append}
use Rattle.lf_rules.specs.Lists.{lists_of}
use Rattle.lf_logs.specs.declared.order.Place.{Place}
use Rattle.lf_pool.proofs.Records.{record_more}
use Rattle.lf_pool.proofs.job.records_at.Goals as goal

pub loop-place-preserved : goal.loop-place-preserved
loop-place-preserved c =
    let at = c.loop-place in
    let none : Place = record { log = 0; at = 0 } in
    let long = ap length c.push_reserved.ensures.items in
    let grown = length-append at.records.items (c.record_at.result ∷ []) in
    let was = at.invariant.count in record {
      records =
          record_more
          (lists_of c.args.logs.now) c.args.places.now at.place-index none at.records.items
          c.push_reserved.new.self.items c.record_at.result
          c.loop-place-test.true at.invariant.records c.push_reserved.ensures.items c.record_at.ensures;
      count = omega arith;
      room = (let room = at.invariant.room in let cap = c.push_reserved.ensures.capacity in omega arith);
    }
