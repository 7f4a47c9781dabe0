-- What the joined threads gave.
use Rattle.std.proofs.Common.{◌≡◌, ℕ, ◌<◌, List, length, get_or, sym, subst, arith}
use Rattle.std.specs.Prelude.{All}
use Rattle.std.specs.PromisedHandle.{KeepsAt, KeepsEach}
use Rattle.std.specs.declared.thread.PromisedHandle.{PromisedHandle}
use Rattle.std.specs.declared.thread.Promise as Promise
use Rattle.atomic_table.specs.Seated.{TableId}
use Rattle.lf_rules.specs.declared.outcome.Outcome.{Outcome}
use Rattle.lf_pool.specs.declared.job.Jobs.{Jobs}
use Rattle.lf_pool.specs.declared.worker.Worked.{Worked}
use Rattle.lf_pool.specs.declared.worker.WorkedBy.{WorkedBy}
use Rattle.lf_pool.specs.Worked.{IsWorked}

-- the promise is about these jobs and this table
abbrev pub IsFor : {P : Type 0} → Jobs → TableId → WorkedBy P → Type 0
IsFor jobs table p = (p.jobs.now ≡ jobs) × (p.shared.now.table_id ≡ table)

module _ {P : Type 0} (MayGive : Jobs → ℕ → Outcome → Type 0) (jobs : Jobs) (table : TableId)
    (g : Promise.Ghosts (WorkedBy P) Worked)
    (says : (p : WorkedBy P) (r : Worked) → g.kept_by p r → IsWorked MayGive p.jobs.now p.shared.now.table_id r)
    (hs : List (PromisedHandle Worked (WorkedBy P))) (mine : All
    (λ (h : PromisedHandle Worked (WorkedBy P)). IsFor jobs table h.promise) hs) where
  one_worked : (i : ℕ) (r : Worked) → i < length hs → KeepsAt g hs i r → IsWorked MayGive jobs table r
  one_worked i r inside kept =
      let own : IsFor jobs table kept.handle.promise = subst
      (λ (h : PromisedHandle Worked (WorkedBy P)). IsFor jobs table h.promise) (sym kept.handle_is)
      (mine i kept.handle inside) in
      let done : IsWorked MayGive kept.handle.promise.jobs.now kept.handle.promise.shared.now.table_id r =
      says kept.handle.promise r kept.kept in
      subst (λ (z : Jobs × TableId). IsWorked MayGive z.0 z.1 r) (λ k. (own.0 k, own.1 k)) done

  pub each_worked : (n : ℕ) (rs : List Worked) → n ≡ length hs → length rs ≡ n → KeepsEach g n hs rs →
      All (IsWorked MayGive jobs table) rs
  each_worked n rs here same each i d inside = one_worked i (get_or rs i d) (omega arith) (each i d (omega arith)).1
