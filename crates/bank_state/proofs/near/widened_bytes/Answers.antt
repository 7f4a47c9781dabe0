use Rattle.std.proofs.Common.{arith, refl}
use Rattle.bank_state.specs.Near.{twice}
use Rattle.bank_state.proofs.NearWider.{wider_end}
use Rattle.bank_state.proofs.near.widened_bytes.Goals as goal

pub returns : goal.returns
returns c = wider_end twice c.args.bytes.now c.loop-one.wider.items
    c.loop-one.one-index (omega (arith, c.loop-one-test.false)) refl c.loop-one.invariant
