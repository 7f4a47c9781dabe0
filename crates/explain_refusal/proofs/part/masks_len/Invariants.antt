use Rattle.std.proofs.Common.{◌≡◌, ◌*◌, ◌≤◌, ◌^◌}
use Rattle.lf_rules.specs.Fits.{masks_len}
use Rattle.lf_codec.specs.Checks.{masks_at}
use Rattle.explain_refusal.proofs.part.masks_len.Given as goal

abbrev pub invariant-loop-k : goal.invariant-loop-k
invariant-loop-k l = record { so_far : l.len ≡ masks_len (masks_at l.k l.bytes); few : l.len ≤ 2 ^ 32 * l.k }
