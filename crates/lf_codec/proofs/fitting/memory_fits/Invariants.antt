use Rattle.std.proofs.Common.{◌≡◌, take}
use Rattle.lf_codec.specs.Trace.{FitsMemory}
use Rattle.lf_codec.proofs.Backward.{least_after}
use Rattle.lf_codec.proofs.fitting.memory_fits.Given as goal

abbrev pub invariant-loop-block : goal.invariant-loop-block
invariant-loop-block l = record {
  fits : FitsMemory l.size 0 (take l.block-index l.memory.items);
  least : l.least ≡ least_after 0 (take l.block-index l.memory.items);
}
