-- How many workers there may be, and why a pool gives no outcomes.
use Rattle.std.specs.Prelude.{◌≡◌, ℕ, ◌<◌, ◌≤◌}
use Rattle.lf_pool.specs.declared.pool.PoolFault.{PoolFault}
use Rattle.lf_pool.specs.declared.pool.PoolFault.TheVariants.{Workers, NoMemory, Spawn}

-- 1 to 16
abbrev pub IsWorkerCount : ℕ → Type 0
IsWorkerCount n = (1 ≤ n) × (n ≤ 16)

-- There cannot be so many, or memory ran out, or a thread was refused, of which one worker makes none.
abbrev pub IsPoolFault : ℕ → PoolFault → Type 0
IsPoolFault workers (Workers n) = (n ≡ workers) × ¬ IsWorkerCount workers
IsPoolFault workers NoMemory = Unit {0}
IsPoolFault workers Spawn = 1 < workers
