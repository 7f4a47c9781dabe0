use Rattle.std.proofs.Common.{◌≡◌, ◌==◌, ◌&&◌, false, take}
use Rattle.std.specs.List.{list_any}
use Rattle.model_plain.proofs.registers.is_field_used.Given as goal

abbrev pub invariant-loop-h : goal.invariant-loop-h
invariant-loop-h g l = list_any (λ h. h.register == l.register && g.T.Target.position l.factor h.target == l.at)
    (take l.h-index l.held) ≡ false
