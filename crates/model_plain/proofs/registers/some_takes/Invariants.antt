use Rattle.std.proofs.Common.{◌≡◌, ℕ, ◌<◌, ◌&&◌, false}
use Rattle.lf_rules.specs.Registers.{holds_in, takes}
use Rattle.model_plain.proofs.registers.some_takes.Given as goal

abbrev pub invariant-loop-r : goal.invariant-loop-r
invariant-loop-r g l = (k : ℕ) → k < l.r → (holds_in l.held k l.block
    && takes l.organisation (g.T.Target.position l.factor) l.held k l.at) ≡ false
