use Rattle.std.proofs.Common.{◌≡◌, ◌-◌, ◌%◌, ℕ, bit_and, subst, sym}
use Rattle.std.proofs.lemmas.Nat.{and_mask}
use Rattle.trace_early.proofs.by_number.slot_of.Goals as goal

pub returns : goal.returns
returns c = subst (λ (n : ℕ). bit_and c.args.number (n - 1) ≡ c.args.number % n) (sym c.requires.1)
    (and_mask c.args.number c.requires.0)
