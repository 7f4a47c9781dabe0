-- What is held when one more register is, and when the holds for a block end.
use Rattle.std.proofs.Common.{◌≡◌, ℕ, ◌+◌, ◌<◌, Bool, true, false, not, cond, eqb, List, [], ◌∷◌, ◌++◌, Option, None}
use Rattle.std.proofs.Common.{Some, refl, sym, ap, ◌∙◌, subst, ⊎_elim, arith}
use Rattle.std.specs.List.{filter}
use Rattle.std.specs.Prelude.{unwrap_or, is_some}
use Rattle.std.specs.Global.{Vec}
use Rattle.std.specs.BTreeMap.{is_at}
use Rattle.std.specs.Ordering.{nat_cmp}
use Rattle.std.proofs.lemmas.Bool.{cases_eq, eq-eqb, ne_eqb}
use Rattle.std.proofs.lemmas.Bool.Decides.{nat_tests}
use Rattle.std.proofs.lemmas.List.{append-nil, map_push}
use Rattle.std.proofs.lemmas.List.Elements.{filter-append}
use Rattle.lf_rules.specs.Numbers.{times}
use Rattle.lf_stats.specs.declared.held.Times.{Times}
use Rattle.lf_stats.specs.Standing.{IsCount, AreTimes, registers_of, held_for, items_in}
use Rattle.lf_stats.specs.Statistics.{distinct}
use Rattle.lf_stats.proofs.Distinct.{AreSame, times_here, times_other, distinct_new, distinct_again, same_middle}
use Rattle.lf_stats.proofs.Distinct.{same_split, others_of}

-- ---- a count that is kept

pub count_more : (o : Option ℕ) (n : ℕ) → IsCount o n → IsCount (Some (unwrap_or o 0 + 1)) (n + 1)
count_more None n told = (omega (arith, told), omega arith)
count_more (Some k) n told = (omega (arith, told.0), omega arith)

pub count_is : (o : Option ℕ) (n : ℕ) → IsCount o n → unwrap_or o 0 ≡ n
count_is None n told = sym told
count_is (Some k) n told = told.0

-- a count that is not 0 is kept
pub some_kept : (o : Option ℕ) (n : ℕ) → 0 < n → IsCount o n → is_some o ≡ true
some_kept None n more told = absurd (omega (arith, more, told))
some_kept (Some k) n more told = refl

pub at_other : (k q : ℕ) → (k ≡ q → ⊥) → is_at (nat_cmp k) q ≡ false
at_other k q other = test k q ∙ ne_eqb k q other
  where
    test : (k q : ℕ) → is_at (nat_cmp k) q ≡ eqb k q
    test k q = grind (arith, nat_tests)

-- ---- one more or less of a register, where the counts of the others stay

module _ (register : ℕ) (registers : List ℕ) (before after : ℕ → Option ℕ)
    (others : (q : ℕ) → (register ≡ q → ⊥) → after q ≡ before q) where
  pub each_added : ((q : ℕ) → IsCount (before q) (times q registers)) →
      after register ≡ Some (unwrap_or (before register) 0 + 1)
      → (q : ℕ) → IsCount (after q) (times q (register ∷ registers))
  each_added told here q = ⊎_elim
      (λ (same : register ≡ q). subst (λ k. IsCount (after k) (times k (register ∷ registers))) same
      (subst (λ o. IsCount o (times register (register ∷ registers))) (sym here)
      (subst (IsCount (Some (unwrap_or (before register) 0 + 1))) (sym (times_here register registers))
      (count_more (before register) (times register registers) (told register)))))
      (λ (other : register ≡ q → ⊥). subst (λ o. IsCount o (times q (register ∷ registers))) (sym (others q other))
      (subst (IsCount (before q)) (sym (times_other q register registers other)) (told q)))
      (cases_eq register q)

  pub each_taken : ((q : ℕ) → IsCount (before q) (times q (register ∷ registers)))
      → IsCount (after register) (times register registers) → (q : ℕ) → IsCount (after q) (times q registers)
  each_taken told here q = ⊎_elim
      (λ (same : register ≡ q). subst (λ k. IsCount (after k) (times k registers)) same here)
      (λ (other : register ≡ q → ⊥). subst (λ o. IsCount o (times q registers)) (sym (others q other))
      (subst (IsCount (before q)) (times_other q register registers other) (told q)))
      (cases_eq register q)

-- a register that is named for the first time is one more
pub count_added : (register : ℕ) (registers : List ℕ) (o : Option ℕ) (count : ℕ) → IsCount o (times register registers)
    → count ≡ distinct registers
    → count + cond (is_some o) 0 1 ≡ distinct (register ∷ registers)
count_added register registers None count told is = omega (arith, is, distinct_new registers register told)
count_added register registers (Some k) count told is = omega (arith, is, distinct_again registers register told.1)

pub times_same : (kept : Times) (xs ys : List ℕ) → AreSame xs ys → AreTimes kept xs → AreTimes kept ys
times_same kept xs ys same told = record {
  each = λ q. subst (IsCount _) (same.times q) (told.each q);
  count =
      told.count ∙ same.distinct;
}

-- ---- one more hold

pub registers_push : (holds : List (ℕ × ℕ)) (block register : ℕ)
    → AreSame (register ∷ registers_of holds) (registers_of (holds ++ (block, register) ∷ []))
registers_push holds block register =
    let pushed : registers_of (holds ++ (block, register) ∷ []) ≡ registers_of holds ++ register ∷ [] =
    map_push (λ (h : ℕ × ℕ). h.1) holds (block, register) in
    subst (AreSame (register ∷ registers_of holds)) (sym pushed)
    (subst (λ rs. AreSame (register ∷ rs) (registers_of holds ++ register ∷ [])) (append-nil (registers_of holds))
    (same_middle register (registers_of holds) []))

pub held_for_push : (block : ℕ) (holds : List (ℕ × ℕ)) (other register : ℕ)
    → held_for other (holds ++ (block, register) ∷ []) ≡ cond (eqb block other)
    (held_for other holds ++ register ∷ []) (held_for other holds)
held_for_push block holds other register =
    let for_other = λ (h : ℕ × ℕ). eqb h.0 other in
    let before = filter for_other holds in
    ap registers_of (filter-append for_other holds ((block, register) ∷ []))
    ∙ elim (eqb block other) as (λ b. registers_of (before ++ cond b ((block, register) ∷ []) [])
    ≡ cond b (registers_of before ++ register ∷ []) (registers_of before)) [
      | true ↦ map_push (λ (h : ℕ × ℕ). h.1) before (block, register)
      | false ↦ ap registers_of (append-nil before)
    ]

-- ---- the holds for a block end

-- a hold with those behind it, if it is one of them
abbrev kept_if : Bool → ℕ × ℕ → List (ℕ × ℕ) → List (ℕ × ℕ)
kept_if b h holds = cond b (h ∷ holds) holds

pub held_for_none : (block : ℕ) (holds : List (ℕ × ℕ)) → held_for block (others_of block holds) ≡ []
held_for_none block [] = refl
held_for_none block (h ∷ holds) = ⊎_elim
    (λ (same : h.0 ≡ block). ap (λ b. held_for block (kept_if (not b) h (others_of block holds)))
    (eq-eqb h.0 block same) ∙ held_for_none block holds)
    (λ (other : h.0 ≡ block → ⊥).
    ap (λ b. held_for block (kept_if (not b) h (others_of block holds))) (ne_eqb h.0 block other)
    ∙ ap (λ b. registers_of (kept_if b h (filter (λ g. eqb g.0 block) (others_of block holds))))
    (ne_eqb h.0 block other)
    ∙ held_for_none block holds)
    (cases_eq h.0 block)

pub held_for_others : (block other : ℕ) (holds : List (ℕ × ℕ)) → (block ≡ other → ⊥)
    → held_for other (others_of block holds) ≡ held_for other holds
held_for_others block other [] apart = refl
held_for_others block other (h ∷ holds) apart =
    let rest = held_for_others block other holds apart in
    let for_other = λ (g : ℕ × ℕ). eqb g.0 other in
    ⊎_elim
    (λ (same : h.0 ≡ block).
    ap (λ b. held_for other (kept_if (not b) h (others_of block holds))) (eq-eqb h.0 block same)
    ∙ rest
    ∙ sym (ap (λ b. registers_of (kept_if b h (filter for_other holds)))
    (ne_eqb h.0 other (λ e. apart (sym same ∙ e)))))
    (λ (not_it : h.0 ≡ block → ⊥).
    ap (λ b. held_for other (kept_if (not b) h (others_of block holds))) (ne_eqb h.0 block not_it)
    ∙ elim (eqb h.0 other) as (λ b. registers_of (kept_if b h (filter for_other (others_of block holds)))
    ≡ registers_of (kept_if b h (filter for_other holds))) [
      | true ↦ ap (λ rs. h.1 ∷ rs) rest
      | false ↦ rest
    ])
    (cases_eq h.0 block)

pub released : (block : ℕ) (holds : List (ℕ × ℕ)) (before after : ℕ → Option (Vec ℕ))
    → ((q : ℕ) → (block ≡ q → ⊥) → after q ≡ before q) → after block ≡ None
    → ((q : ℕ) → items_in (before q) ≡ held_for q holds) → (q : ℕ) →
    items_in (after q) ≡ held_for q (others_of block holds)
released block holds before after others gone told q = ⊎_elim
    (λ (same : block ≡ q). subst (λ k. items_in (after k) ≡ held_for k (others_of block holds)) same
    (ap items_in gone ∙ sym (held_for_none block holds)))
    (λ (other : block ≡ q → ⊥). ap items_in (others q other) ∙ told q ∙ sym (held_for_others block q holds other))
    (cases_eq block q)

pub times_split : (kept : Times) (block : ℕ) (holds : List (ℕ × ℕ)) (mine : List ℕ) → mine ≡ held_for block holds
    → AreTimes kept (registers_of holds)
    → AreTimes kept (mine ++ registers_of (others_of block holds))
times_split kept block holds mine is told =
    subst (λ rs. AreTimes kept (rs ++ registers_of (others_of block holds))) (sym is)
    (times_same kept (registers_of holds) (held_for block holds ++ registers_of (others_of block holds))
    (same_split block holds) told)
