use Rattle.std.proofs.Common.{◌≡◌, ◌++◌, drop}
use Rattle.bank_state.proofs.NearWider.{wider_keys}
use Rattle.bank_state.proofs.near.widened_keys.Given as goal

abbrev pub invariant-loop-key : goal.invariant-loop-key
invariant-loop-key l = l.wider.items ++ wider_keys l.spread l.count (drop l.key-index l.keys)
    ≡ wider_keys l.spread l.count l.keys
