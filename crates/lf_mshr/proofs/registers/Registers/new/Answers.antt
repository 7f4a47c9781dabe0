use Rattle.std.proofs.Common.{rules, ◌≡◌, [], replicate, refl, ap}
use Rattle.lf_mshr.specs.Places.{held_of}
use Rattle.lf_mshr.proofs.Indexed.{IsIndexed-empty, IsCounted-empty}
use Rattle.lf_mshr.proofs.Stored.{IsStored-empty}
use Rattle.lf_mshr.proofs.registers.Registers.new.Goals as goal

pub invariant_of-result : goal.invariant_of-result
invariant_of-result g c =
    let n = c.args.registers in
    let none : held_of c.in_ok-places.places.order ≡ [] = ap (λ p. held_of p.order) c.in_ok-places.ensures in
    let blocks : c.in_ok-blocks.blocks.items ≡ replicate n 0 = search rules in
    let counts : c.in_ok-counts.counts.items ≡ replicate n 0 = search rules in
    let stores : c.in_ok-stores.stores.items ≡ replicate n 0 = search rules in
    record {
      index = rw (none, blocks) (IsIndexed-empty n c.requires.registers);
      counted = rw (none, counts) (IsCounted-empty n);
      stored = rw (none, stores) (IsStored-empty g.T.Target.is_store g.T.Target.bytes n);
      below = rw none (λ r above. refl);
      once = rw none (λ block r other e f. absurd (cc e));
    }
