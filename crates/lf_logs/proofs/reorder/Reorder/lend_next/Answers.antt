use Rattle.std.proofs.Common.{sym, ap, arith}
use Rattle.lf_logs.specs.Reordering.{Reordering}
use Rattle.lf_logs.proofs.Reordered.{none_past}
use Rattle.lf_logs.proofs.reorder.Reorder.lend_next.Goals as goal

pub returns-then-self-from-clause-there : goal.returns-then-self-from-clause-there
returns-then-self-from-clause-there c put gave has =
    sym (none_past c.args.self.now put gave has (omega (
      arith,
      c.if-self-from.true,
      c.from.ensures,
      ap (λ (o : Reordering). o.next) c.self.view_is,
    )))
