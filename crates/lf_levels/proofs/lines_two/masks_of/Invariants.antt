use Rattle.std.proofs.Common.{◌≡◌, map, take}
use Rattle.arrayvec.specs.ArrayVec.{array_vec_len}
use Rattle.lf_levels.specs.WayWords.{mask_of_word}
use Rattle.lf_levels.proofs.lines_two.masks_of.Given as goal

abbrev pub invariant-loop-word : goal.invariant-loop-word
invariant-loop-word l = record {
  items : l.masks.items ≡ map mask_of_word (take l.word-index l.words);
  count : array_vec_len l.masks ≡ l.word-index;
}
