use Rattle.std.proofs.Common.{◌≡◌, ℕ, List, ◌+◌, ◌++◌, take, map, length}
use Rattle.std.specs.Prelude.{vec_capacity}
use Rattle.lf_rules.specs.Registers.{Held, targets_of}
use Rattle.lf_rules.specs.State.{Missed}
use Rattle.lf_rules.specs.Table.{reply_of}
use Rattle.lf_mshr.specs.Alike.{AreAlike}
use Rattle.lf_mshr.specs.RegisterFile.{released_pair}
use Rattle.lf_mshr.specs.declared.level_one.Request1.{Request1}
use Rattle.bank_events.specs.Targets.{IsTarget1}
use Rattle.bank_events.proofs.replies.add_replies.Given as goal

abbrev pub invariant-loop-target : goal.invariant-loop-target
invariant-loop-target l =
    ((held : List (Held Request1)) (waiting : List (Held Missed)) (block : ℕ) →
    AreAlike (IsTarget1 l.shape) held waiting → l.targets ≡ map released_pair (targets_of held block)
    → l.ready.items ≡ l.initial.ready.items ++ map reply_of (take l.target-index (targets_of waiting block)))
    × (length l.ready.items ≡ length l.initial.ready.items + l.target-index)
    × (vec_capacity l.ready ≡ vec_capacity l.initial.ready)
