-- Each step keeps the rule.
use Rattle.std.proofs.Common.{◌≡◌, ◌≢◌, ℕ, ◌+◌, ◌%◌, ◌^◌, ◌<◌, ◌≤◌, Bool, true, false, cond, List, [], ◌∷◌, ◌++◌}
use Rattle.std.proofs.Common.{length, get_or}
use Rattle.std.proofs.Common.{set, refl, sym, ap, ◌∙◌, subst, ⊎_elim, arith, length-append, length-set, get_or-set_same}
use Rattle.std.specs.Prelude.{◌==◌, slice_index, nat_lt, nat_le, sum_by, All}
use mathlib.Core.Option.{some, none, some-injective}
use mathlib.Core.Logic.{dite}
use native.Mathlib.Decide.{dec_le}
use lib.ListN.{get_elem?}
use Rattle.std.proofs.lemmas.List.Elements.{All-head, All-tail, All-push}
use Rattle.std.proofs.lemmas.List.Quantifiers.{all_pairs_push}
use Rattle.std.proofs.lemmas.List.Sums.{sum_by-cons, sum_by_push}
use Rattle.atomic_table.specs.Table.{step, keeps, stepped, Allows, Splits, Joins}
use Rattle.atomic_table.proofs.Lists.{at_set, at_longer, set_here, set_else}
use Rattle.lf_pool.specs.declared.rule.View.{View}
use Rattle.lf_pool.specs.declared.rule.View.TheVariants.{Keeper, Worker, Spent}
use Rattle.lf_pool.specs.Rule.{PoolState, times, past, times_in, past_in, workers_in, AreTakenIn, FitsSeat}
use Rattle.lf_pool.specs.Rule.{AreClaimed, Claims}
use Rattle.lf_pool.proofs.Places.{at_snoc_place, at_within}
use Rattle.lf_pool.proofs.Totals.{total_set, at_most_total, total_le, total_one, once_below, times_here}
use Rattle.lf_pool.proofs.Totals.{one_more_below, below_from_once, not_past, is_past}

-- what stays of the workers that were taken in, where their seats stay spent
still_taken : (jobs : ℕ) (old new : List View) (joined : List (ℕ × List ℕ)) →
    ((j : ℕ) → get_elem? old j ≡ some Spent → get_elem? new j ≡ some Spent)
    → AreTakenIn jobs old joined → AreTakenIn jobs new joined
still_taken jobs old new joined stay is = record {
  spent = λ i d lt. stay ((get_or joined i d).0 + 1)
      (is.spent i d lt);
  numbers = is.numbers;
  past = is.past;
}

-- a seat that is not spent changes
spent_set : (views : List View) (seat j : ℕ) (v w : View) → get_elem? views seat ≡ some v → (v ≡ Spent → ⊥) →
    get_elem? views j ≡ some Spent → get_elem? (set views seat w) j ≡ some Spent
spent_set views seat j v w at busy spent =
    set_else views seat j w (λ e. busy (some-injective v Spent (sym at ∙ ap (get_elem? views) (sym e) ∙ spent))) ∙ spent

few_past : (jobs : ℕ) (joined : List (ℕ × List ℕ)) → All (λ w. past jobs w.1 ≤ 1) joined →
    sum_by (λ (w : ℕ × List ℕ). past jobs w.1) joined ≤ length joined
few_past jobs [] all = omega arith
few_past jobs (w ∷ ws) all =
    let P : ℕ × List ℕ → Type 0 = λ v. past jobs v.1 ≤ 1 in
    let here = All-head P w ws all in let rest = few_past jobs ws (All-tail P w ws all) in
    omega (arith, sum_by-cons (λ (v : ℕ × List ℕ). past jobs v.1) w ws)

-- no view has more claims past the jobs than workers
each_past : (jobs : ℕ) (views : List View) (j : ℕ) (v : View) → FitsSeat jobs views j v → past_in jobs v ≤ workers_in v
each_past jobs views j (Keeper made joined) fits = few_past jobs joined fits.2.past
each_past jobs views j (Worker number claims) fits = fits.1
each_past jobs views j Spent fits = omega arith

pub bounded : (jobs : ℕ) (s : PoolState) → AreClaimed jobs s → slice_index s.words 0 ≤ jobs + 16
bounded jobs s was =
    let most : sum_by (past_in jobs) s.views ≤ sum_by workers_in s.views =
    total_le (past_in jobs) workers_in s.views (λ j v at. each_past jobs s.views j v (was.seats j v at)) in
    let few = was.few in let count = was.workers in let within = was.within in
    omega arith

module _ (jobs slots seat number : ℕ) (claims : List ℕ) (s : PoolState) (was : AreClaimed jobs s)
    (at : get_elem? s.views seat ≡ some (Worker number claims))
    (under : past jobs claims ≡ 0) (small : jobs ≤ 32) where
  abbrev word : ℕ
  word = slice_index s.words 0

  abbrev mine : View
  mine = Worker number claims

  abbrev new : View
  new = Worker number (claims ++ word ∷ [])

  abbrev next : ℕ
  next = (word + 1) % 2 ^ 64

  next_is : next ≡ word + 1
  next_is = let most = bounded jobs s was in omega arith

  put : slice_index (set s.words 0 next) 0 ≡ word + 1
  put = get_or-set_same s.words 0 next 0 (let wide = was.words in omega arith) ∙ next_is

  once_after : (x : ℕ) → sum_by (times_in x) (set s.views seat new)
      ≡ cond {A = ℕ} (nat_lt x (slice_index (set s.words 0 next) 0)) 1 0
  once_after x =
      let old : sum_by (times_in x) s.views ≡ cond {A = ℕ} (nat_lt x word) 1 0 = was.once x in
      let change : sum_by (times_in x) (set s.views seat new) + times x claims ≡ sum_by (times_in x) s.views
      + times x (claims ++ word ∷ []) = total_set (times_in x) s.views seat mine new at in
      let more : times x (claims ++ word ∷ []) ≡ times x claims + cond {A = ℕ} (word == x) 1 0 =
      sum_by_push (λ (y : ℕ). cond {A = ℕ} (y == x) 1 0) claims word in
      let below : cond {A = ℕ} (nat_lt x word) 1 0 + cond {A = ℕ} (word == x) 1 0
      ≡ cond {A = ℕ} (nat_lt x (word + 1)) 1 0 = one_more_below x word in
      let total : sum_by (times_in x) (set s.views seat new) ≡ cond {A = ℕ} (nat_lt x (word + 1)) 1 0 = omega arith in
      total ∙ ap (λ n. cond {A = ℕ} (nat_lt x n) 1 0) (sym put)

  more_past : past jobs (claims ++ word ∷ []) ≡ cond {A = ℕ} (nat_le jobs word) 1 0
  more_past = sum_by_push (λ (y : ℕ). cond {A = ℕ} (nat_le jobs y) 1 0) claims word ∙ (let u = under in omega arith)

  past_one : past jobs (claims ++ word ∷ []) ≤ 1
  past_one = rw more_past (flag_le (nat_le jobs word))
    where
      flag_le : (b : Bool) → cond {A = ℕ} b 1 0 ≤ 1
      flag_le b = elim b as (λ v. cond {A = ℕ} v 1 0 ≤ 1) [ true ↦ omega arith | false ↦ omega arith ]

  within_after : slice_index (set s.words 0 next) 0 ≤ jobs + sum_by (past_in jobs) (set s.views seat new)
  within_after =
      let change : sum_by (past_in jobs) (set s.views seat new) + past jobs claims ≡ sum_by (past_in jobs) s.views
      + past jobs (claims ++ word ∷ []) =
      total_set (past_in jobs) s.views seat mine new at in
      let within = was.within in let is = put in let more = more_past in
      dite (dec_le jobs word)
      (λ le. let one = is_past jobs word le in omega arith)
      (λ nle. let none = not_past jobs word (omega arith) in omega arith)

  workers_after : sum_by workers_in (set s.views seat new) + 1 ≡ length (set s.views seat new)
  workers_after =
      let change : sum_by workers_in (set s.views seat new) + 1 ≡ sum_by workers_in s.views + 1 =
      total_set workers_in s.views seat mine new at in
      change ∙ (was.workers ∙ sym (length-set s.views seat new))

  still_fits : (j : ℕ) (u : View) → FitsSeat jobs s.views j u → FitsSeat jobs (set s.views seat new) j u
  still_fits j (Keeper made joined) fits = (
    fits.0,
    length-set s.views seat new ∙ fits.1,
    still_taken jobs s.views (set s.views seat new) joined
        (λ k. spent_set s.views seat k mine new at (λ e. cc)) fits.2,
  )
  still_fits j (Worker m cs) fits = fits
  still_fits j Spent fits = tt

  seats_after : (j : ℕ) (u : View) → get_elem? (set s.views seat new) j ≡ some u →
      FitsSeat jobs (set s.views seat new) j u
  seats_after j u e = ⊎_elim
      (λ (x : (j ≡ seat) × (new ≡ u)). subst (λ v. FitsSeat jobs (set s.views seat new) j v) x.1
      (x.0 ∙ (was.seats seat mine at).0, past_one))
      (λ (x : (j ≢ seat) × (get_elem? s.views j ≡ some u)). still_fits j u (was.seats j u x.1))
      (at_set s.views seat j new u e)

  drawn : AreClaimed jobs (stepped s 0 next seat [] new keeps)
  drawn = record {
    words = length-set s.words 0 next ∙ was.words;
    once = once_after;
    within = within_after;
    workers = workers_after;
    few = (let few = was.few in let same = length-set s.views seat new in omega arith);
    seats = seats_after;
  }

  above : All (λ c. c < word) claims
  above i d inside =
      let x : ℕ = get_or claims i d in
      let here : 0 < times x claims = times_here claims i d inside in
      let most : times x claims ≤ sum_by (times_in x) s.views = at_most_total (times_in x) s.views seat mine at in
      let once : sum_by (times_in x) s.views ≡ cond {A = ℕ} (nat_lt x word) 1 0 = was.once x in
      below_from_once x word (omega arith)

-- a claim keeps the rule
pub claims : (jobs slots seat number : ℕ) (had : List ℕ) → past jobs had ≡ 0 → jobs ≤ 32
    → Allows (AreClaimed jobs) slots seat (Worker number had, []) 0 (λ n. (n + 1) % 2 ^ 64)
    (Claims (step slots 0 1 0 none) (Worker number had, []))
claims jobs slots seat number had under small s was homes at fits = (
  new jobs slots seat number had s was at under small,
  keeps,
  tt,
  drawn jobs slots seat number had s was at under small,
  ((let most = bounded jobs s was in omega arith), above jobs slots seat number had s was at under small, refl),
)

-- the pool gives the next worker a seat
module _ (jobs seat made : ℕ) (joined : List (ℕ × List ℕ)) (room : made < 16) (s : PoolState)
    (was : AreClaimed jobs s) (at : get_elem? s.views seat ≡ some (Keeper made joined)) where
  abbrev front : List View
  front = set s.views seat (Keeper (made + 1) joined)

  abbrev with_next : List View
  with_next = front ++ Worker made [] ∷ []

  keeper_fits : FitsSeat jobs s.views seat (Keeper made joined)
  keeper_fits = was.seats seat (Keeper made joined) at

  longer : length with_next ≡ made + 2
  longer = let a = length-append front (Worker made [] ∷ []) in let b =
      length-set s.views seat (Keeper (made + 1) joined) in let c = keeper_fits.1 in omega arith

  still_open : AreTakenIn jobs with_next joined
  still_open =
      still_taken jobs s.views with_next joined
      (λ k spent. at_longer front (Worker made [] ∷ []) k Spent
      (spent_set s.views seat k (Keeper made joined) (Keeper (made + 1) joined) at (λ e. cc) spent)) keeper_fits.2

  -- a total stays, where the new view adds what the seat's change leaves out
  total_opened : (f : View → ℕ) (more : ℕ) → f (Keeper (made + 1) joined) ≡ f (Keeper made joined) →
      f (Worker made []) ≡ more → sum_by f with_next ≡ sum_by f s.views + more
  total_opened f more same new_is =
      let change = total_set f s.views seat (Keeper made joined) (Keeper (made + 1) joined) at in
      let push = sum_by_push f front (Worker made []) in
      omega arith

  old_fits : (j : ℕ) (u : View) → j ≢ seat → FitsSeat jobs s.views j u → FitsSeat jobs with_next j u
  old_fits j (Keeper m js) apart fits = absurd (apart (fits.0 ∙ sym keeper_fits.0))
  old_fits j (Worker m cs) apart fits = fits
  old_fits j Spent apart fits = tt

  seats_opened : (j : ℕ) (u : View) → get_elem? with_next j ≡ some u → FitsSeat jobs with_next j u
  seats_opened j u e = ⊎_elim
      (λ (old : get_elem? front j ≡ some u). ⊎_elim
      (λ (x : (j ≡ seat) × (Keeper (made + 1) joined ≡ u)). subst (λ v. FitsSeat jobs with_next j v) x.1
      (x.0 ∙ keeper_fits.0, (let l = longer in omega arith), still_open))
      (λ (x : (j ≢ seat) × (get_elem? s.views j ≡ some u)). old_fits j u x.0 (was.seats j u x.1))
      (at_set s.views seat j (Keeper (made + 1) joined) u old))
      (λ (x : (j ≡ length front) × (Worker made [] ≡ u)).
      let count = keeper_fits.1 in let same = length-set s.views seat (Keeper (made + 1) joined) in
      subst (λ v. FitsSeat jobs with_next j v) x.1 ((let j_is = x.0 in omega arith), omega arith))
      (at_snoc_place front (Worker made []) u j e)

  opened : AreClaimed jobs (record { words = s.words; homes = s.homes; views = with_next })
  opened = record {
    words = was.words;
    once = λ x. let t : sum_by (times_in x) with_next ≡ sum_by (times_in x) s.views + 0 =
        total_opened (times_in x) 0 refl refl in let o = was.once x in omega arith;
    within = (let t : sum_by (past_in jobs) with_next ≡ sum_by (past_in jobs) s.views + 0 =
        total_opened (past_in jobs) 0 refl refl in let w = was.within in omega arith);
    workers = (let t : sum_by workers_in with_next ≡ sum_by workers_in s.views + 1 =
        total_opened workers_in 1 refl refl in let w = was.workers in
        let l = longer in let c = keeper_fits.1 in omega arith);
    few = (let l = longer in omega arith);
    seats = seats_opened;
  }

pub opens : (jobs seat made : ℕ) (joined : List (ℕ × List ℕ)) → made < 16 →
    Splits (AreClaimed jobs) seat (Keeper made joined) (Keeper (made + 1) joined) (Worker made [])
opens jobs seat made joined room s was at = opened jobs seat made joined room s was at

-- the pool takes a worker's claims in
module _ (jobs seat made : ℕ) (joined : List (ℕ × List ℕ)) (other number : ℕ) (claims : List ℕ) (s : PoolState)
    (was : AreClaimed jobs s) (at : get_elem? s.views seat ≡ some (Keeper made joined))
    (apart : ¬ (other ≡ seat)) (there : get_elem? (set s.views seat (Keeper made (joined ++ (number, claims) ∷ [])))
    other ≡ some (Worker number claims)) where
  abbrev both : View
  both = Keeper made (joined ++ (number, claims) ∷ [])

  abbrev taken : List View
  taken = set (set s.views seat both) other Spent

  pool_fits : FitsSeat jobs s.views seat (Keeper made joined)
  pool_fits = was.seats seat (Keeper made joined) at

  worker_there : get_elem? s.views other ≡ some (Worker number claims)
  worker_there = ⊎_elim (λ (x : (other ≡ seat) × (both ≡ Worker number claims)). absurd (apart x.0))
      (λ (x : (other ≢ seat) × (get_elem? s.views other ≡ some (Worker number claims))). x.1)
      (at_set s.views seat other both (Worker number claims) there)

  worker_fits : FitsSeat jobs s.views other (Worker number claims)
  worker_fits = was.seats other (Worker number claims) worker_there

  same_length : length taken ≡ length s.views
  same_length = length-set (set s.views seat both) other Spent ∙ length-set s.views seat both

  total_taken : (f : View → ℕ) → f both ≡ f (Keeper made joined) + f (Worker number claims) → f Spent ≡ 0 →
      sum_by f taken ≡ sum_by f s.views
  total_taken f adds nothing =
      let first = total_set f s.views seat (Keeper made joined) both at in
      let second = total_set f (set s.views seat both) other (Worker number claims) Spent there in
      omega arith

  rest_fits : (j : ℕ) (u : View) → j ≢ seat → FitsSeat jobs s.views j u → FitsSeat jobs taken j u
  rest_fits j (Keeper m js) differ fits = absurd (differ (fits.0 ∙ sym pool_fits.0))
  rest_fits j (Worker m cs) differ fits = fits
  rest_fits j Spent differ fits = tt

  still_spent : (k : ℕ) → get_elem? s.views k ≡ some Spent → get_elem? taken k ≡ some Spent
  still_spent k spent =
      spent_set (set s.views seat both) other k (Worker number claims) Spent there (λ e. cc)
      (spent_set s.views seat k (Keeper made joined) both at (λ e. cc) spent)

  now_spent : get_elem? taken (number + 1) ≡ some Spent
  now_spent =
      subst (λ k. get_elem? taken k ≡ some Spent) worker_fits.0
      (set_here (set s.views seat both) other Spent (at_within (set s.views seat both) other (Worker number claims)
      there))

  -- the worker's number is none of those that were taken in, whose seats are spent
  other_number : (i : ℕ) (d : ℕ × List ℕ) → i < length joined → (get_or joined i d).0 ≡ number → ⊥
  other_number i d lt e =
      let spent = pool_fits.2.spent i d lt in
      let busy : get_elem? s.views ((get_or joined i d).0 + 1) ≡ some (Worker number claims) =
      ap (λ n. get_elem? s.views (n + 1)) e ∙ (ap (get_elem? s.views) (sym worker_fits.0) ∙ worker_there) in
      let same : Worker number claims ≡ Spent = some-injective (Worker number claims) Spent (sym busy ∙ spent) in cc

  one_taken : AreTakenIn jobs taken (joined ++ (number, claims) ∷ [])
  one_taken =
      let before = still_taken jobs s.views taken joined still_spent pool_fits.2 in record {
        spent = All-push (λ (w : ℕ × List ℕ). get_elem? taken (w.0 + 1) ≡ some Spent) joined (number, claims)
            before.spent now_spent;
        numbers = all_pairs_push (λ (v w : ℕ × List ℕ). v.0 ≢ w.0) joined (number, claims) before.numbers other_number;
        past = All-push (λ (w : ℕ × List ℕ). past jobs w.1 ≤ 1) joined (number, claims) before.past worker_fits.1;
      }

  both_fits : FitsSeat jobs taken seat both
  both_fits = (pool_fits.0, same_length ∙ pool_fits.1, one_taken)

  seats_taken : (j : ℕ) (u : View) → get_elem? taken j ≡ some u → FitsSeat jobs taken j u
  seats_taken j u e = ⊎_elim
      (λ (x : (j ≡ other) × (Spent ≡ u)). subst (λ v. FitsSeat jobs taken j v) x.1 tt)
      (λ (x : (j ≢ other) × (get_elem? (set s.views seat both) j ≡ some u)). ⊎_elim
      (λ (y : (j ≡ seat) × (both ≡ u)). subst (λ (z : ℕ × View). FitsSeat jobs taken z.0 z.1)
      (λ i. (sym y.0 i, y.1 i)) both_fits)
      (λ (y : (j ≢ seat) × (get_elem? s.views j ≡ some u)). rest_fits j u y.0 (was.seats j u y.1))
      (at_set s.views seat j both u x.1))
      (at_set (set s.views seat both) other j Spent u e)

  took : AreClaimed jobs (record { words = s.words; homes = s.homes; views = taken })
  took = record {
    words = was.words;
    once = λ x. total_taken (times_in x) (sum_by_push (λ (w : ℕ × List ℕ). times x w.1) joined (number, claims)) refl
        ∙ was.once x;
    within = (let t = total_taken (past_in jobs) (sum_by_push (λ (w : ℕ × List ℕ). past jobs w.1) joined
        (number, claims)) refl in let w = was.within in omega arith);
    workers = (let t = total_taken workers_in (length-append joined ((number, claims) ∷ [])) refl in let w =
        was.workers in let l = same_length in omega arith);
    few = (let few = was.few in let same = same_length in omega arith);
    seats = seats_taken;
  }

pub takes : (jobs seat made : ℕ) (joined : List (ℕ × List ℕ)) (other number : ℕ) (claims : List ℕ)
    → Joins (AreClaimed jobs) seat (Keeper made joined) other (Worker number claims)
    (Keeper made (joined ++ (number, claims) ∷ [])) Spent
takes jobs seat made joined other number claims s was at apart there =
    took jobs seat made joined other number claims s was at apart there

-- Once every worker was taken in, and one of them claimed a number past the jobs, each job is claimed once
pub all_claimed : (jobs seat made : ℕ) (joined : List (ℕ × List ℕ)) (s : PoolState) → AreClaimed jobs s →
    get_elem? s.views seat ≡ some (Keeper made joined) → length joined ≡ made
    → (k : ℕ) (w : ℕ × List ℕ) (i d : ℕ) → get_elem? joined k ≡ some w → i < length w.1 → jobs ≤ get_or w.1 i d
    → (x : ℕ) → x < jobs → times_in x (Keeper made joined) ≡ 1
all_claimed jobs seat made joined s was at full k w i d there inside beyond x below =
    let fits = was.seats seat (Keeper made joined) at in
    let count = was.workers in let long = fits.1 in
    let whole : sum_by workers_in s.views ≡ workers_in (Keeper made joined) = omega arith in
    let mine : (y : ℕ) → sum_by (times_in y) s.views ≡ times_in y (Keeper made joined) =
    λ y. total_one (times_in y) workers_in s.views seat (Keeper made joined) at (no_worker y) whole in
    let last : ℕ = get_or w.1 i d in
    let here : 0 < times last w.1 = times_here w.1 i d inside in
    let most : times last w.1 ≤ times_in last (Keeper made joined) =
    at_most_total (λ (v : ℕ × List ℕ). times last v.1) joined k w there in
    let is_last = mine last in
    let once_last = was.once last in
    let above : last < slice_index s.words 0 = below_from_once last (slice_index s.words 0) (omega arith) in
    sym (mine x) ∙ (was.once x ∙ once_below x (slice_index s.words 0) (omega arith))
  where
    none_joined : (y : ℕ) (js : List (ℕ × List ℕ)) → length js ≡ 0 → sum_by (λ (v : ℕ × List ℕ). times y v.1) js ≡ 0
    none_joined y [] e = refl
    none_joined y (v ∷ vs) e = absurd (omega arith)

    no_worker : (y : ℕ) (u : View) → workers_in u ≡ 0 → times_in y u ≡ 0
    no_worker y (Keeper m js) e = none_joined y js e
    no_worker y (Worker m cs) e = absurd (omega arith)
    no_worker y Spent e = refl
