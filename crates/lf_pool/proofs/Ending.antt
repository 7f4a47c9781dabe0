-- Every job has its outcome at the end.
use Rattle.std.proofs.Common.{◌≡◌, ℕ, zero, suc, ◌+◌, ◌<◌, ◌≤◌, cond, List, [], ◌∷◌, ◌++◌, length, get_or, map}
use Rattle.std.proofs.Common.{replicate}
use Rattle.std.proofs.Common.{Option, Some, None, refl, sym, ap, ◌∙◌, subst, arith, length-append, ne_eqb, true≢false}
use Rattle.std.specs.Prelude.{◌==◌, slice_get, All, IfSome, IsSome, sum_by}
use mathlib.Core.Logic.{dite}
use mathlib.Core.Option.{some}
use native.Mathlib.Decide.{ℕ_discrete, dec_le}
use lib.ListN.{get_elem?}
use Rattle.std.proofs.lemmas.List.{length-replicate, length-map, get_or_default}
use Rattle.std.proofs.lemmas.List.Sums.{sum_by-cons, sum_by_push}
use Rattle.std.proofs.lemmas.List.Elements.{All-head, All-tail}
use Rattle.std.proofs.lemmas.Option.{slice_get_within, get_or_from_slice_get}
use Rattle.std.proofs.Math.Seq.{get_or-append_seam}
use Rattle.atomic_table.specs.Seated.{TableId}
use Rattle.atomic_table.specs.Table.{Final, Seen}
use Rattle.lf_rules.specs.declared.outcome.Outcome.{Outcome}
use Rattle.lf_rules.specs.declared.outcome.Outcome.TheVariants as told
use Rattle.lf_pool.specs.declared.job.Jobs.{Jobs}
use Rattle.lf_pool.specs.declared.worker.Worked.{Worked}
use Rattle.lf_pool.specs.declared.rule.View.TheVariants.{Keeper}
use Rattle.lf_pool.specs.Job.{count_of, AreOutcomesBy}
use Rattle.lf_pool.specs.Rule.{PoolState, Mine, AreClaimed, times, times_in}
use Rattle.lf_pool.specs.Worked.{number_of, and_last, claims_of, IsDone, IsWorked, entry_of, put_all, put_each}
use Rattle.lf_pool.proofs.Steps.{all_claimed}
use Rattle.lf_pool.proofs.Placing.{length-put_all, length-put_each, Has, AreRight, put_all_keeps, put_all_has}

pos_map : {A B : Type 0} (f : B → ℕ) (g : A → B) (xs : List A) → 0 < sum_by f (map g xs) → (k : ℕ) × (x : A) ×
    (slice_get xs k ≡ Some x) × (0 < f (g x))
pos_map f g [] h = absurd (omega arith)
pos_map f g (x ∷ xs) h =
    let split = sum_by-cons f (g x) (map g xs) in
    dite (dec_le 1 (f (g x)))
    (λ here. (0, x, refl, here))
    (λ none. let r = pos_map f g xs (omega arith) in (suc r.0, r.1, r.2, r.3))

flag_true : (a b : ℕ) → 0 < cond {A = ℕ} (a == b) 1 0 → a ≡ b
flag_true a b h = dite (ℕ_discrete a b) (λ e. e) (λ ne. let z : cond {A = ℕ} (a == b) 1 0 ≡ 0 =
    ap (λ t. cond {A = ℕ} t 1 0) (ne_eqb a b ne) in absurd (omega arith))

-- a number that was claimed before the last is one that was done
before_last : (jobs x : ℕ) (xs : List ℕ) (last : Option ℕ) → IfSome last (λ l. jobs ≤ l) → x < jobs →
    times x (and_last xs last) ≡ times x xs
before_last jobs x xs None is below = refl
before_last jobs x xs (Some l) is below =
    let push : times x (xs ++ l ∷ []) ≡ times x xs + cond {A = ℕ} (l == x) 1 0 =
    sum_by_push (λ (y : ℕ). cond {A = ℕ} (y == x) 1 0) xs l in
    let none : cond {A = ℕ} (l == x) 1 0 ≡ 0 = ap (λ t. cond {A = ℕ} t 1 0) (ne_eqb l x (λ e. absurd (omega arith))) in
    omega arith

-- the last claim, which is past the jobs
last_at : (jobs d : ℕ) (xs : List ℕ) (last : Option ℕ) → IfSome last (λ l. jobs ≤ l) → IsSome last →
    (length xs < length (and_last xs last)) × (jobs ≤ get_or (and_last xs last) (length xs) d)
last_at jobs d xs None is some_last = absurd (true≢false (sym some_last))
last_at jobs d xs (Some l) is some_last =
    let seam : get_or (xs ++ l ∷ []) (length xs) d ≡ l = get_or-append_seam xs l [] d in
    ((let n = length-append xs (l ∷ []) in omega arith), (let h : jobs ≤ l = is in omega arith))

module _ (MayGive : Jobs → ℕ → Outcome → Type 0) (jobs : Jobs) (table : TableId) where
  abbrev Filled : List (Option Outcome) → ℕ → Type 0
  Filled slots x = Has (MayGive jobs) slots x

  right : (ps : List (ℕ × Outcome)) → All (IsDone MayGive jobs) ps → AreRight (MayGive jobs) ps
  right ps done k p at = subst (λ (q : ℕ × Outcome). MayGive jobs q.0 q.1) (get_or_from_slice_get ps k p p at)
      (done k p (slice_get_within ps k p at)).1

  put_each_keeps : (rs : List Worked) (slots : List (Option Outcome)) (x : ℕ) → All (IsWorked MayGive jobs table) rs →
      Filled slots x → Filled (put_each slots rs) x
  put_each_keeps [] slots x all here = here
  put_each_keeps (r ∷ rs) slots x all here =
      let P : Worked → Type 0 = IsWorked MayGive jobs table in
      put_each_keeps rs (put_all slots r.done.items) x (All-tail P r rs all)
      (put_all_keeps (MayGive jobs) r.done.items slots x (right r.done.items ((All-head P r rs all).done)) here)

  put_each_has : (rs : List Worked) (slots : List (Option Outcome)) (k : ℕ) (r : Worked) (i : ℕ) (p : ℕ × Outcome) →
      All (IsWorked MayGive jobs table) rs
      → slice_get rs k ≡ Some r → slice_get r.done.items i ≡ Some p → p.0 < length slots
      → Filled (put_each slots rs) p.0
  put_each_has [] slots k r i p all at there inside = absurd (cc)
  put_each_has (q ∷ rs) slots zero r i p all at there inside =
      let P : Worked → Type 0 = IsWorked MayGive jobs table in
      let is : q ≡ r = cc in
      put_each_keeps rs (put_all slots q.done.items) p.0 (All-tail P q rs all)
      (put_all_has (MayGive jobs) q.done.items slots i p (right q.done.items ((All-head P q rs all).done))
      (subst (λ (y : Worked). slice_get y.done.items i ≡ Some p) (sym is) there) inside)
  put_each_has (q ∷ rs) slots (suc k) r i p all at there inside =
      let P : Worked → Type 0 = IsWorked MayGive jobs table in
      put_each_has rs (put_all slots q.done.items) k r i p (All-tail P q rs all) at there
      (let same = length-put_all slots q.done.items in omega arith)

  first_past : (rs : List Worked) (d : ℕ) → 0 < length rs → All (IsWorked MayGive jobs table) rs →
      All (λ r. IsSome r.last) rs
      → (w : ℕ × List ℕ) × (i : ℕ) × (get_elem? (map entry_of rs) 0 ≡ some w) × (i < length w.1) ×
      (count_of jobs ≤ get_or w.1 i d)
  first_past [] d nonempty all whole = absurd (omega arith)
  first_past (r ∷ rs) d nonempty all whole =
      let P : Worked → Type 0 = IsWorked MayGive jobs table in
      let Q : Worked → Type 0 = λ v. IsSome v.last in
      let own = All-head P r rs all in
      let l = last_at (count_of jobs) d (map number_of r.done.items) r.last own.last (All-head Q r rs whole) in
      (entry_of r, length (map number_of r.done.items), refl, l.0, l.1)

  -- each job has its outcome
  pub filled : (rs : List Worked) (seat made : ℕ) (s : PoolState) → AreClaimed (count_of jobs) s →
      get_elem? s.views seat ≡ some (Keeper made (map entry_of rs)) → length rs ≡ made → 0 < length rs
      → All (IsWorked MayGive jobs table) rs → All (λ r. IsSome r.last) rs → (x : ℕ) → x < count_of jobs →
      Filled (put_each (replicate (count_of jobs) None) rs) x
  filled rs seat made s was at full nonempty all whole x below =
      let f = first_past rs 0 nonempty all whole in
      let once : times_in x (Keeper made (map entry_of rs)) ≡ 1 =
      all_claimed (count_of jobs) seat made (map entry_of rs) s was at (length-map rs entry_of ∙ full) 0 f.0 f.1 0
      f.2 f.3 f.4 x below in
      let found = pos_map (λ (w : ℕ × List ℕ). times x w.1) entry_of rs (omega arith) in
      let r : Worked = found.1 in
      let own : IsWorked MayGive jobs table r = subst (IsWorked MayGive jobs table)
      (get_or_from_slice_get rs found.0 r r found.2) (all found.0 r (slice_get_within rs found.0 r found.2)) in
      let same : times x (claims_of r) ≡ times x (map number_of r.done.items) =
      before_last (count_of jobs) x (map number_of r.done.items) r.last own.last below in
      let pos : 0 < times x (claims_of r) = found.3 in
      let done = pos_map (λ (y : ℕ). cond {A = ℕ} (y == x) 1 0) number_of r.done.items (omega arith) in
      let p : ℕ × Outcome = done.1 in
      let is : p.0 ≡ x = flag_true p.0 x done.3 in
      let long : length (replicate {A = Option Outcome} (count_of jobs) None) ≡ count_of jobs =
      length-replicate (count_of jobs) None in
      subst (λ y. Filled (put_each (replicate (count_of jobs) None) rs) y) is
      (put_each_has rs (replicate (count_of jobs) None) found.0 r done.0 p all found.2 done.2 (omega arith))

-- the outcomes at the end, from the last state of the pool's table
pub ending : (MayGive : Jobs → ℕ → Outcome → Type 0) (jobs : Jobs) (table : TableId) (count seat made blanks : ℕ)
    (rs : List Worked) (me : Mine) (words : List ℕ) (slots : List (Unit {0}))
    (first outcomes : List (Option Outcome)) → count ≡ count_of jobs → blanks ≡ count_of jobs
    → Final (Seen (AreClaimed count) seat me.0) words slots → me ≡ (Keeper made (map entry_of rs), []) →
    length rs ≡ made → 0 < made → All (IsWorked MayGive jobs table) rs → All (λ r. IsSome r.last) rs
    → first ≡ replicate blanks None → outcomes ≡ put_each first rs → (length outcomes ≡ count_of jobs) ×
    ((x : ℕ) → x < count_of jobs → Has (MayGive jobs) outcomes x)
ending MayGive jobs table count seat made blanks rs me words slots first outcomes same many final is full nonempty all
    whole empty done =
    let placed : outcomes ≡ put_each (replicate (count_of jobs) None) rs =
    done ∙ ap (λ l. put_each l rs) (empty ∙ ap (λ n. replicate n None) many) in
    let kept : AreClaimed (count_of jobs) final.0 = subst (λ n. AreClaimed n final.0) same final.1.0 in (
      ap length placed ∙ (length-put_each (replicate (count_of jobs) None) rs ∙ length-replicate (count_of jobs) None),
      λ x below. subst (λ (l : List (Option Outcome)). Has (MayGive jobs) l x) (sym placed)
          (filled MayGive jobs table rs seat made final.0 kept (final.1.1 ∙ ap (λ (m : Mine). some m.0) is) full
          (omega arith) all whole x below),
    )

pub all_some : (Is : ℕ → Outcome → Type 0) (outcomes : List (Option Outcome)) →
    ((x : ℕ) → x < length outcomes → Has Is outcomes x) → All (λ o. IsSome o) outcomes
all_some Is outcomes each k d within = let has = each k within in
    subst (λ (o : Option Outcome). IsSome o) (sym (get_or_default outcomes k d None within ∙ has.there)) refl

-- the outcomes, each taken out of its place
pub taken_out : (MayGive : Jobs → ℕ → Outcome → Type 0) (jobs : Jobs) (outcomes : List (Option Outcome))
    (all : List Outcome) → length outcomes ≡ count_of jobs →
    ((x : ℕ) → x < count_of jobs → Has (MayGive jobs) outcomes x)
    → length all ≡ length outcomes → ((i : ℕ) → i < length outcomes → slice_get all i ≡ get_or outcomes i None) →
    AreOutcomesBy MayGive jobs all
taken_out MayGive jobs outcomes all count each same out = record {
  count = same ∙ count;
  each = λ x lt.
      let has = each x lt in
      subst (MayGive jobs x) (sym (get_or_from_slice_get all x has.outcome told.NoMemory
      (out x (omega arith) ∙ has.there))) has.is;
}
