use Rattle.std.proofs.Common.{◌≡◌, ◌++◌, take, map}
use Rattle.lf_rules.specs.Registers.{targets_of}
use Rattle.lf_rules.specs.Table.{reply_of}
use Rattle.model_plain.proofs.effect.add_replies.Given as goal

abbrev pub invariant-loop-held : goal.invariant-loop-held
invariant-loop-held l = l.ready.items ≡ l.initial.ready.items
    ++ map reply_of (targets_of (take l.held-index l.waiting) l.block)
