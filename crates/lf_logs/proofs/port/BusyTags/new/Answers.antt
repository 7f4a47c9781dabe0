use Rattle.std.proofs.Common.{◌≡◌, ℕ, zero, suc, get_or, Option, None, refl}
use Rattle.std.proofs.Math.ListN.{replicate}
use Rattle.lf_logs.proofs.port.BusyTags.new.Goals as goal

none_busy : (n tag : ℕ) → get_or (replicate {A = Option ℕ} n None) tag None ≡ None
none_busy zero tag = refl
none_busy (suc n) zero = refl
none_busy (suc n) (suc tag) = none_busy n tag

pub returns : goal.returns
returns c now = λ i. record now { busy = λ tag. none_busy 256 tag i }
