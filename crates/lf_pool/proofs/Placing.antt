-- Outcomes put at their numbers.
use Rattle.std.proofs.Common.{◌≡◌, ℕ, zero, suc, ◌<◌, List, [], ◌∷◌, ◌++◌, length, get_or, set, map, Option, Some, None}
use Rattle.std.proofs.Common.{refl, sym, ap, ◌∙◌, subst, arith, length-set, get_or-set_same, get_or-set_other}
use Rattle.std.specs.Prelude.{slice_get}
use mathlib.Core.Logic.{dite}
use mathlib.Core.List.{map-append}
use native.Mathlib.Decide.{ℕ_discrete, dec_le}
use Rattle.std.proofs.lemmas.List.{set_past}
use Rattle.lf_rules.specs.declared.outcome.Outcome.{Outcome}
use Rattle.lf_pool.specs.declared.worker.Worked.{Worked}
use Rattle.lf_pool.specs.declared.rule.View.TheVariants.{Keeper, Worker}
use Rattle.lf_pool.specs.Rule.{Mine, with_worker}
use Rattle.lf_pool.specs.Worked.{claims_of, entry_of, put_all, put_each}

pub put_all_snoc : (slots : List (Option Outcome)) (ps : List (ℕ × Outcome)) (p : ℕ × Outcome) →
    put_all slots (ps ++ p ∷ []) ≡ set (put_all slots ps) p.0 (Some p.1)
put_all_snoc slots [] p = refl
put_all_snoc slots (q ∷ qs) p = put_all_snoc (set slots q.0 (Some q.1)) qs p

pub put_each_snoc : (slots : List (Option Outcome)) (rs : List Worked) (r : Worked) →
    put_each slots (rs ++ r ∷ []) ≡ put_all (put_each slots rs) r.done.items
put_each_snoc slots [] r = refl
put_each_snoc slots (q ∷ qs) r = put_each_snoc (put_all slots q.done.items) qs r

pub length-put_all : (slots : List (Option Outcome)) (ps : List (ℕ × Outcome)) →
    length (put_all slots ps) ≡ length slots
length-put_all slots [] = refl
length-put_all slots (p ∷ ps) = length-put_all (set slots p.0 (Some p.1)) ps ∙ length-set slots p.0 (Some p.1)

pub length-put_each : (slots : List (Option Outcome)) (rs : List Worked) → length (put_each slots rs) ≡ length slots
length-put_each slots [] = refl
length-put_each slots (r ∷ rs) = length-put_each (put_all slots r.done.items) rs ∙ length-put_all slots r.done.items

-- the pool's view after one more worker
pub keeper_after : (made : ℕ) (rs : List Worked) (r : Worked) (old other new : Mine) →
    old ≡ (Keeper made (map entry_of rs), [])
    → other ≡ (Worker r.number (claims_of r), []) → new ≡ (with_worker old.0 other.0, old.1)
    → new ≡ (Keeper made (map entry_of (rs ++ r ∷ [])), [])
keeper_after made rs r old other new p q s =
    let a : (with_worker old.0 other.0, old.1) ≡ (Keeper made (map entry_of rs ++ entry_of r ∷ []), []) =
    λ i. (with_worker (p i).0 (q i).0, (p i).1) in
    s ∙ (a ∙ ap (λ l. (Keeper made l, [])) (sym (map-append entry_of rs (r ∷ []))))

-- outcomes that are right for their places
module _ (Is : ℕ → Outcome → Type 0) where
  -- the place has an outcome, and it is the right one
  pub record Has (slots : List (Option Outcome)) (x : ℕ) : Type 0 where
    pub outcome : Outcome
    pub there : get_or slots x None ≡ Some outcome
    pub is : Is x outcome

  abbrev pub AreRight : List (ℕ × Outcome) → Type 0
  AreRight ps = (k : ℕ) (p : ℕ × Outcome) → slice_get ps k ≡ Some p → Is p.0 p.1

  placed : (slots : List (Option Outcome)) (p : ℕ × Outcome) → Is p.0 p.1 → p.0 < length slots →
      Has (set slots p.0 (Some p.1)) p.0
  placed slots p right inside = record {
    outcome = p.1;
    there = get_or-set_same slots p.0 (Some p.1) None inside;
    is =
        right;
  }

  set_has : (slots : List (Option Outcome)) (p : ℕ × Outcome) (x : ℕ) → Is p.0 p.1 → Has slots x →
      Has (set slots p.0 (Some p.1)) x
  set_has slots p x right here = dite (ℕ_discrete x p.0)
      (λ e. dite (dec_le (length slots) p.0)
      (λ past. subst (λ (l : List (Option Outcome)). Has l x) (sym (set_past slots p.0 (Some p.1) past)) here)
      (λ within. subst (λ k. Has (set slots p.0 (Some p.1)) k) (sym e) (placed slots p right (omega arith))))
      (λ ne. record {
        outcome = here.outcome;
        there = get_or-set_other slots p.0 x (Some p.1) None ne
            ∙ here.there;
        is = here.is;
      })

  pub put_all_keeps : (ps : List (ℕ × Outcome)) (slots : List (Option Outcome)) (x : ℕ) → AreRight ps → Has slots x →
      Has (put_all slots ps) x
  put_all_keeps [] slots x right here = here
  put_all_keeps (p ∷ ps) slots x right here = put_all_keeps ps (set slots p.0 (Some p.1)) x
      (λ k q e. right (suc k) q e) (set_has slots p x (right 0 p refl) here)

  pub put_all_has : (ps : List (ℕ × Outcome)) (slots : List (Option Outcome)) (k : ℕ) (p : ℕ × Outcome) →
      AreRight ps → slice_get ps k ≡ Some p → p.0 < length slots → Has (put_all slots ps) p.0
  put_all_has [] slots k p right at inside = absurd (cc)
  put_all_has (q ∷ ps) slots zero p right at inside =
      let is : q ≡ p = cc in
      subst (λ (y : ℕ × Outcome). Has (put_all slots (q ∷ ps)) y.0) is
      (put_all_keeps ps (set slots q.0 (Some q.1)) q.0 (λ k x e. right (suc k) x e)
      (placed slots q (right 0 q refl) (subst (λ (y : ℕ × Outcome). y.0 < length slots) (sym is) inside)))
  put_all_has (q ∷ ps) slots (suc k) p right at inside =
      put_all_has ps (set slots q.0 (Some q.1)) k p (λ i x e. right (suc i) x e) at
      (let same = length-set slots q.0 (Some q.1) in omega arith)
