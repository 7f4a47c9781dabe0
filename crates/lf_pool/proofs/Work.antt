-- What a worker has done.
use Rattle.std.proofs.Common.{◌≡◌, ℕ, ◌+◌, ◌<◌, ◌≤◌, List, [], ◌∷◌, ◌++◌, cond, length, map, get_or, refl, ap, arith}
use Rattle.std.proofs.Common.{length-append}
use Rattle.std.specs.Prelude.{All, Any, nat_le}
use mathlib.Core.Logic.{dite}
use native.Mathlib.Decide.{dec_le}
use Rattle.std.proofs.lemmas.List.Sums.{sum_by-cons}
use Rattle.std.proofs.lemmas.List.Elements.{All-head, All-tail, All-cons, All-nil}
use Rattle.std.proofs.Math.Seq.{get_or-append_seam}
use Rattle.lf_rules.specs.declared.outcome.Outcome.{Outcome}
use Rattle.lf_pool.specs.Rule.{past}
use Rattle.lf_pool.specs.Worked.{number_of}
use Rattle.lf_pool.proofs.Totals.{not_past}

pub none_past : (jobs : ℕ) (ps : List (ℕ × Outcome)) → All (λ (p : ℕ × Outcome). p.0 < jobs) ps →
    past jobs (map number_of ps) ≡ 0
none_past jobs [] all = refl
none_past jobs (p ∷ ps) all =
    let P : ℕ × Outcome → Type 0 = λ q. q.0 < jobs in
    let here = not_past jobs p.0 (All-head P p ps all) in
    let rest = none_past jobs ps (All-tail P p ps all) in
    omega (arith, sum_by-cons (λ (y : ℕ). cond {A = ℕ} (nat_le jobs y) 1 0) p.0 (map number_of ps))

pub all_unmap : {A B : Type 0} (P : B → Type 0) (f : A → B) (xs : List A) → All P (map f xs) → All (λ x. P (f x)) xs
all_unmap P f [] all = All-nil (λ x. P (f x))
all_unmap P f (x ∷ xs) all = All-cons (λ y. P (f y)) x xs (All-head P (f x) (map f xs) all)
    (all_unmap P f xs (All-tail P (f x) (map f xs) all))

pub above_low : (low found : ℕ) (ps : List (ℕ × Outcome)) → (0 < low → Any (λ (p : ℕ × Outcome). p.0 + 1 ≡ low) ps) →
    All (λ c. c < found) (map number_of ps) → low ≤ found
above_low low found ps any all = dite (dec_le 1 low)
    (λ some.
    let h = any some in
    let below : number_of (get_or ps h.0 h.1) < found = all_unmap (λ c. c < found) number_of ps all h.0 h.1 h.2 in
    let is : number_of (get_or ps h.0 h.1) ≡ number_of h.1 = ap number_of h.3 in
    let next = h.4 in omega arith)
    (λ none. omega arith)

pub any_last : (ps : List (ℕ × Outcome)) (p : ℕ × Outcome) (n : ℕ) → p.0 + 1 ≡ n →
    Any (λ (q : ℕ × Outcome). q.0 + 1 ≡ n) (ps ++ p ∷ [])
any_last ps p n is = (
  length ps,
  p,
  (let l = length-append ps (p ∷ []) in omega arith),
  get_or-append_seam ps p [] p,
  is,
)
