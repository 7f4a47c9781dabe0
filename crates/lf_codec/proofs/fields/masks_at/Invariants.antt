use Rattle.std.proofs.Common.{◌≡◌}
use Rattle.arrayvec.specs.ArrayVec.{array_vec_len}
use Rattle.lf_codec.specs.Checks.{masks_at}
use Rattle.lf_codec.proofs.fields.masks_at.Given as goal

abbrev pub invariant-loop-i : goal.invariant-loop-i
invariant-loop-i l = record { items : l.masks.items ≡ masks_at l.i l.bytes; count : array_vec_len l.masks ≡ l.i }
