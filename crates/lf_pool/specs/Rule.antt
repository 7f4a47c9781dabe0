-- What holds of the claim word and of the seats' views between any two steps.
use Rattle.std.specs.Prelude.{◌≡◌, ◌≢◌, ◌==◌, ℕ, ◌+◌, ◌<◌, ◌≤◌, List, [], ◌∷◌, ◌++◌, length, slice_index, cond}
use Rattle.std.specs.Prelude.{nat_lt, nat_le, sum_by, count_by, All, AllPairs}
use mathlib.Core.Option.{some}
use lib.ListN.{get_elem?}
use Rattle.atomic_table.specs.Table.{State, Me, Step}
use Rattle.lf_pool.specs.declared.rule.View.{View}
use Rattle.lf_pool.specs.declared.rule.View.TheVariants.{Keeper, Worker, Spent}

abbrev pub PoolState : Type 0
PoolState = State (Unit {0}) View

abbrev pub Mine : Type 0
Mine = Me (Unit {0}) View

abbrev pub new_keeper : View
new_keeper = Keeper 0 []

-- how often the number was claimed
abbrev pub times : ℕ → List ℕ → ℕ
times x claims = count_by (λ y. y == x) claims

-- how many of the claims are past the jobs
abbrev pub past : ℕ → List ℕ → ℕ
past jobs claims = count_by (λ y. nat_le jobs y) claims

-- the same of a view, with what it took in
abbrev pub times_in : ℕ → View → ℕ
times_in x (Keeper made joined) = sum_by (λ (w : ℕ × List ℕ). times x w.1) joined
times_in x (Worker number claims) = times x claims
times_in x Spent = 0

abbrev pub past_in : ℕ → View → ℕ
past_in jobs (Keeper made joined) = sum_by (λ (w : ℕ × List ℕ). past jobs w.1) joined
past_in jobs (Worker number claims) = past jobs claims
past_in jobs Spent = 0

-- how many workers' claims the view has
abbrev pub workers_in : View → ℕ
workers_in (Keeper made joined) = length joined
workers_in (Worker number claims) = 1
workers_in Spent = 0

-- these workers were taken in: the seat of each is spent, no two have one number, and of the claims of each at most
-- one is past
-- the jobs
pub record AreTakenIn (jobs : ℕ) (views : List View) (joined : List (ℕ × List ℕ)) : Type 0 where
  pub spent : All (λ w. get_elem? views (w.0 + 1) ≡ some Spent) joined
  pub numbers : AllPairs (λ v w. v.0 ≢ w.0) joined
  pub past : All (λ w. past jobs w.1 ≤ 1) joined

abbrev pub FitsSeat : ℕ → List View → ℕ → View → Type 0
FitsSeat jobs views seat (Keeper made joined) = (seat ≡ 0) × (length views ≡ made + 1) × AreTakenIn jobs views joined
FitsSeat jobs views seat (Worker number claims) = (seat ≡ number + 1) × (past jobs claims ≤ 1)
FitsSeat jobs views seat Spent = Unit {0}

-- the numbers below the word are claimed, each once, and few are past the jobs
pub record AreClaimed (jobs : ℕ) (s : PoolState) : Type 0 where
  pub words : length s.words ≡ 1
  pub once : (x : ℕ) → sum_by (times_in x) s.views ≡ cond (nat_lt x (slice_index s.words 0)) 1 0
  pub within : slice_index s.words 0 ≤ jobs + sum_by (past_in jobs) s.views
  pub workers : sum_by workers_in s.views + 1 ≡ length s.views
  pub few : length s.views ≤ 17
  pub seats : (seat : ℕ) (v : View) → get_elem? s.views seat ≡ some v → FitsSeat jobs s.views seat v

-- the view after a claim
abbrev pub claimed : View → ℕ → View
claimed (Keeper made joined) x = Keeper made joined
claimed (Worker number claims) x = Worker number (claims ++ x ∷ [])
claimed Spent x = Spent

abbrev pub claims_of : View → List ℕ
claims_of (Keeper made joined) = []
claims_of (Worker number claims) = claims
claims_of Spent = []

-- the number found is claimed, and is above all that the worker claimed before
abbrev pub Claims : Step (Unit {0}) → Mine → ℕ → Mine → Type 0
Claims st me found me' = (found < 18446744073709551615) × All (λ c. c < found) (claims_of me.0) ×
    (me' ≡ (claimed me.0 found, me.1))

abbrev pub one_more : View → View
one_more (Keeper made joined) = Keeper (made + 1) joined
one_more (Worker number claims) = Worker number claims
one_more Spent = Spent

abbrev pub next_worker : View → View
next_worker (Keeper made joined) = Worker made []
next_worker (Worker number claims) = Spent
next_worker Spent = Spent

abbrev pub with_worker : View → View → View
with_worker (Keeper made joined) (Worker number claims) = Keeper made (joined ++ (number, claims) ∷ [])
with_worker v w = v
