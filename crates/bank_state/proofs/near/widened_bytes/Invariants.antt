use Rattle.std.proofs.Common.{◌≡◌, ◌++◌, drop}
use Rattle.bank_state.specs.Near.{twice}
use Rattle.bank_state.proofs.near.widened_bytes.Given as goal

abbrev pub invariant-loop-one : goal.invariant-loop-one
invariant-loop-one l = l.wider.items ++ twice (drop l.one-index l.bytes) ≡ twice l.bytes
