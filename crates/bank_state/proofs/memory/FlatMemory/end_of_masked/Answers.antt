use Rattle.std.proofs.Common.{List, ◌++◌, ℕ, drop, ap}
use Rattle.std.specs.Prelude.{bytes_eq}
use Rattle.bank_state.specs.Bytes.{flat_of}
use Rattle.bank_state.proofs.Masked.{none_left}
use Rattle.bank_state.proofs.memory.FlatMemory.end_of_masked.Goals as goal

pub returns-then-mask-eq0-clause-value : goal.returns-then-mask-eq0-clause-value
returns-then-mask-eq0-clause-value c = λ more.
    ap (λ (xs : List ℕ). bytes_eq (drop c.args.from c.args.bytes.now) (xs ++ more))
    (none_left (flat_of c.args.self.now c.args.block) c.args.size c.args.mask.0 c.if-mask-eq0.true)
