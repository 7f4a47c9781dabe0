use Rattle.std.proofs.Common.{ap, ◌/◌, rules}
use Rattle.bank_cells.specs.Cells.{memory_at}
use Rattle.bank_events.proofs.Targets.{value_long}
use Rattle.bank_events.proofs.target.missed.Goals as goal

pub returns-clause-tells : goal.returns-clause-tells
returns-clause-tells c = record {
  position = ap (λ n. n / 8) c.offset-offset.ensures.value;
  port = c.requires.port;
  tag = c.requires.tag;
  destination = search rules;
  store = search rules;
  bytes = search rules;
  size = value_long (memory_at c.args.cells.now) c.args.request.now;
  value = c.number_of.ensures;
}
