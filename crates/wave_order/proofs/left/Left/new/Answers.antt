use Rattle.std.proofs.Common.{ℕ, List, length, ap, ◌∙◌, arith}
use Rattle.std.proofs.lemmas.List.{length-replicate}
use Rattle.wave_order.specs.Times.{came_of}
use Rattle.wave_order.proofs.Entries.{no_log}
use Rattle.wave_order.proofs.Going.{zeros}
use Rattle.wave_order.proofs.left.Left.new.Goals as goal

pub returns : goal.returns
returns c = record {
  few = omega (arith, ap length c.new.ensures.items);
  sized = length-replicate {A = ℕ} 256 0;
  each = no_log c.new.result.items c.new.ensures.items;
  next = λ bank lt. zeros 256 bank;
  counted = ap length c.new-came.ensures ∙ length-replicate {A = ℕ} 256 0;
  came = λ log lt. ap (λ (counts : List ℕ). came_of counts log) c.new-came.ensures ∙ zeros 256 log ∙ omega arith;
}
