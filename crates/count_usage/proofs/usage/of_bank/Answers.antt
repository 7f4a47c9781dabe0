use Rattle.std.proofs.Common.{length, ap, arith}
use Rattle.lf_stats.proofs.Sizes.{order_le}
use Rattle.count_usage.proofs.usage.of_bank.Goals as goal

pub bank_use-requires-clause-few : goal.bank_use-requires-clause-few
bank_use-requires-clause-few g c =
    omega (
      arith,
      ap length c.as_slice.ensures.value,
      order_le (g.L.LogRecords.lists c.args.logs.now) c.args.bank c.in-Ok.places.items
          c.requires.short c.in-Ok.ensures.order,
    )
