use Rattle.std.proofs.Common.{take}
use Rattle.lf_replay.specs.Looks.{OfStep}
use Rattle.explain_replay.specs.Named.{AreNamed}
use Rattle.explain_replay.proofs.named.named_blocks.Given as goal

abbrev pub invariant-loop-block : goal.invariant-loop-block
invariant-loop-block l = OfStep l.step (AreNamed l.all.items (take l.block-index l.blocks))
