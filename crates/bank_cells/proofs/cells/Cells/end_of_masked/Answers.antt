use Rattle.std.proofs.Common.{List, ◌++◌, ℕ, drop, ap}
use Rattle.std.specs.Prelude.{bytes_eq}
use Rattle.bank_cells.specs.Cells.{memory_at}
use Rattle.bank_state.proofs.Masked.{none_left}
use Rattle.bank_cells.proofs.cells.Cells.end_of_masked.Goals as goal

pub returns-then-mask-eq0-clause-value : goal.returns-then-mask-eq0-clause-value
returns-then-mask-eq0-clause-value c = λ block is more.
    ap (λ (xs : List ℕ). bytes_eq (drop c.args.from c.args.bytes.now) (xs ++ more))
    (none_left (memory_at c.args.self.now block) c.args.size c.args.mask.0 c.if-mask-eq0.true)
