-- Traces that come one after another, each smaller than the one before, and what is told of the last.
use Rattle.std.proofs.Common.{◌≡◌, ◌⊎◌, ℕ, Bool, ◌<◌, List, length, refl, inl, inr, ap, subst, arith}
use Rattle.lf_rules.specs.declared.shape.Shape.{Shape}
use Rattle.run_shrink.specs.declared.wanted.Wanted.{Wanted}
use Rattle.run_shrink.specs.declared.candidate.Kept.{Kept}
use Rattle.run_shrink.specs.Candidate.{IsKept, IsSmallerThan, IsNoLargerThan}
use Rattle.run_shrink.specs.Broken.{HasFault}
use Rattle.run_shrink.specs.Shrunk.{Breaks}

pub same_size : (kept : Kept) → IsNoLargerThan kept kept
same_size kept = record { records = omega arith; bytes = inl refl }

fewer_still : (first best kept : List ℕ) → (best ≡ first) ⊎ (length best < length first) → length kept < length best
    → (kept ≡ first) ⊎ (length kept < length first)
fewer_still first best kept (inl same) h = inr (omega (arith, ap length same, h))
fewer_still first best kept (inr fewer) h = inr (omega (arith, fewer, h))

pub smaller_still : (first best kept : Kept) → IsNoLargerThan first best → IsSmallerThan best kept →
    IsNoLargerThan first kept
smaller_still first best kept so_far h = record {
  records = omega (arith, so_far.records, h.records);
  bytes = fewer_still first.bytes.items best.bytes.items kept.bytes.items so_far.bytes h.bytes;
}

pub breaks : (shape : Shape) (wanted : Wanted) (first : Bool) (kept : Kept) → wanted.sought.first ≡ first
    → IsKept shape wanted kept → Breaks shape first wanted kept.bytes.items kept.fault (length kept.records.items)
breaks shape wanted first kept same h = record {
  header = h.header;
  memory = kept.memory.items;
  records = kept.records.items;
  trace = h.trace;
  count = refl;
  has = subst (λ (b : Bool). HasFault b shape kept.bytes.items kept.fault) same h.has;
  is_wanted = h.is_wanted;
}
