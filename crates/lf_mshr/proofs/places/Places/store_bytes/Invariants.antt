use Rattle.std.proofs.Common.{◌≡◌, ◌≤◌, ℕ, slice_index, bit_or}
use Rattle.std.specs.List.{fold}
use Rattle.lf_rules.specs.Registers.{targets_of}
use Rattle.lf_mshr.specs.Places.{held_of, placed, walk}
use Rattle.lf_mshr.specs.RegisterFile.{store_mask}
use Rattle.lf_mshr.proofs.Chain.{at}
use Rattle.lf_mshr.proofs.places.Places.store_bytes.Given as goal

abbrev pub invariant-loop-left : goal.invariant-loop-left
invariant-loop-left g l =
    let p = l.self-inside in
    record {
      answer : fold (λ mask h. bit_or mask (store_mask g.T.Target.is_store g.T.Target.bytes h.target)) l.bytes
          (targets_of (held_of (placed p.items.items (walk (slice_index p.next.items) l.at l.left))) l.block)
          ≡ fold (λ mask h. bit_or mask (store_mask g.T.Target.is_store g.T.Target.bytes h.target)) 0
          (targets_of (held_of l.self.order) l.block);
      below : (place : ℕ) → p.end ≤ place → at place (walk (slice_index p.next.items) l.at l.left) ≡ 0;
      low : l.at ≤ p.end;
    }

abbrev pub decreases-loop-left : goal.decreases-loop-left
decreases-loop-left g l = l.left
