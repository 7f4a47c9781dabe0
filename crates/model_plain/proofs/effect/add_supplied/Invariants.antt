use Rattle.std.proofs.Common.{◌≡◌, ◌++◌, take, map}
use Rattle.lf_rules.specs.Registers.{targets_of}
use Rattle.lf_rules.specs.Table.{block_asked}
use Rattle.model_plain.proofs.effect.add_supplied.Given as goal

abbrev pub invariant-loop-held : goal.invariant-loop-held
invariant-loop-held l = l.supplied.items ≡ l.initial.supplied.items
    ++ map block_asked (targets_of (take l.held-index l.regs2) l.second)
