use Rattle.std.proofs.Common.{ℕ, List, Option, length, ◌*◌, ◌∙◌, sym, ap, subst, arith, refl}
use Rattle.bank_state.specs.Near.{blocks_in, places_of, twice, IsKeyedTable}
use Rattle.bank_state.proofs.NearWider.{wider_keys, wider_end, keyed_blocks, keyed_table}
use Rattle.bank_state.proofs.near.widened_keys.Goals as goal

pub returns-clause-same : goal.returns-clause-same
returns-clause-same c = λ bytes.
    let keys = c.args.keys.now in
    let count = 2 * length keys in
    let made = wider_end (wider_keys c.args.spread count) keys c.loop-key.wider.items c.loop-key.key-index
    (omega (arith, c.loop-key-test.false)) refl c.loop-key.invariant in
    ap (λ (ks : List (Option ℕ)). blocks_in (places_of ks (twice bytes))) made
    ∙ keyed_blocks c.args.spread count keys bytes

pub returns-clause-table : goal.returns-clause-table
returns-clause-table c = λ used bytes keyed.
    let keys = c.args.keys.now in
    let count = 2 * length keys in
    let made = wider_end (wider_keys c.args.spread count) keys c.loop-key.wider.items c.loop-key.key-index
    (omega (arith, c.loop-key-test.false)) refl c.loop-key.invariant in
    subst (λ (ks : List (Option ℕ)). IsKeyedTable c.args.spread used ks (twice bytes)) (sym made)
    (keyed_table c.args.spread used keys bytes c.requires keyed)
