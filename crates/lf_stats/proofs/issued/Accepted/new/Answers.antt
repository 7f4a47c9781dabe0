use Rattle.std.proofs.Common.{◌≡◌, ℕ, zero, suc, get_or, refl}
use Rattle.std.proofs.Math.ListN.{replicate}
use Rattle.lf_stats.proofs.issued.Accepted.new.Goals as goal

abbrev nought : ℕ
nought = 0

none : (n port : ℕ) → get_or (replicate n nought) port nought ≡ nought
none zero port = refl
none (suc n) zero = refl
none (suc n) (suc port) = none n port

pub returns : goal.returns
returns c port = none 256 port
