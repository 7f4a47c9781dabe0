use Rattle.std.proofs.Common.{◌≡◌, ◌≤◌, ℕ, slice_index}
use Rattle.lf_rules.specs.Registers.{holds}
use Rattle.lf_mshr.specs.Places.{held_of, placed, walk}
use Rattle.lf_mshr.proofs.Chain.{at}
use Rattle.lf_mshr.proofs.places.Places.holds.Given as goal

abbrev pub invariant-loop-left : goal.invariant-loop-left
invariant-loop-left g l =
    let p = l.self-inside in
    record {
      answer : holds (held_of (placed p.items.items (walk (slice_index p.next.items) l.at l.left))) l.block
          ≡ holds (held_of l.self.order) l.block;
      below : (place : ℕ) → p.end ≤ place → at place (walk (slice_index p.next.items) l.at l.left) ≡ 0;
      low : l.at ≤ p.end;
    }

abbrev pub decreases-loop-left : goal.decreases-loop-left
decreases-loop-left g l = l.left
