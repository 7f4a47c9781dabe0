use Rattle.std.proofs.Common.{◌≡◌, take}
use Rattle.arrayvec.specs.ArrayVec.{array_vec_len}
use Rattle.lf_rules.specs.Lines.{marked}
use Rattle.model_plain.proofs.lines.marked.Given as goal

abbrev pub invariant-loop-i : goal.invariant-loop-i
invariant-loop-i l = record {
  items : l.new.items ≡ take l.i (marked l.masks l.place l.mask).items;
  count :
      array_vec_len l.new ≡ l.i;
}
