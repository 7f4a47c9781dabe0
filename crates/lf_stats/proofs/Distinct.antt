-- Lists with the same numbers, each as often.
use Rattle.std.proofs.Common.{◌≡◌, ℕ, zero, suc, ◌+◌, ◌<◌, ◌≤◌, Bool, true, false, not, ◌||◌, cond, eqb, List, []}
use Rattle.std.proofs.Common.{◌∷◌, ◌++◌, length, refl, sym, ap, ◌∙◌, subst, ⊎_elim, arith}
use Rattle.std.specs.List.{filter}
use Rattle.std.proofs.lemmas.Bool.{cases_eq, eq-eqb, ne_eqb}
use Rattle.std.proofs.lemmas.List.Sums.{sum_by-cons}
use Rattle.lf_rules.specs.Numbers.{times}
use Rattle.lf_stats.specs.Standing.{registers_of, held_for}
use Rattle.lf_stats.specs.Statistics.{is_among, distinct}

abbrev one : Bool → ℕ
one b = cond b 1 0

pub times_cons : (n k : ℕ) (ns : List ℕ) → times n (k ∷ ns) ≡ one (eqb k n) + times n ns
times_cons n k ns = sum_by-cons (λ m. one (eqb m n)) k ns

pub times_here : (n : ℕ) (ns : List ℕ) → times n (n ∷ ns) ≡ times n ns + 1
times_here n ns = let here = ap one (eq-eqb n n refl) in omega (arith, times_cons n n ns, here)

pub times_other : (n k : ℕ) (ns : List ℕ) → (k ≡ n → ⊥) → times n (k ∷ ns) ≡ times n ns
times_other n k ns other = let apart = ap one (ne_eqb k n other) in omega (arith, times_cons n k ns, apart)

-- ---- which are among them

pub among_none : (ns : List ℕ) (n : ℕ) → times n ns ≡ 0 → is_among ns n ≡ false
among_none [] n none = refl
among_none (k ∷ ns) n none = ⊎_elim
    (λ (same : k ≡ n). let here = ap one (eq-eqb k n same) in absurd (omega (arith, times_cons n k ns, here, none)))
    (λ (other : k ≡ n → ⊥). ap (λ b. b || is_among ns n) (ne_eqb k n other)
    ∙ among_none ns n (sym (times_other n k ns other) ∙ none))
    (cases_eq k n)

pub among_some : (ns : List ℕ) (n : ℕ) → 0 < times n ns → is_among ns n ≡ true
among_some [] n some = absurd (omega (arith, some))
among_some (k ∷ ns) n some = ⊎_elim
    (λ (same : k ≡ n). ap (λ b. b || is_among ns n) (eq-eqb k n same))
    (λ (other : k ≡ n → ⊥). ap (λ b. b || is_among ns n) (ne_eqb k n other)
    ∙ among_some ns n (subst (λ m. 0 < m) (times_other n k ns other) some))
    (cases_eq k n)

-- one more number is counted where it is not among them
abbrev pub one_more : Bool → ℕ → ℕ
one_more among count = cond among count (count + 1)

pub distinct_new : (ns : List ℕ) (n : ℕ) → times n ns ≡ 0 → distinct (n ∷ ns) ≡ distinct ns + 1
distinct_new ns n none = ap (λ b. one_more b (distinct ns)) (among_none ns n none)

pub distinct_again : (ns : List ℕ) (n : ℕ) → 0 < times n ns → distinct (n ∷ ns) ≡ distinct ns
distinct_again ns n some = ap (λ b. one_more b (distinct ns)) (among_some ns n some)

-- ---- the same numbers, each as often, and so as many distinct ones

pub record AreSame (xs ys : List ℕ) : Type 0 where
  pub times : (n : ℕ) → times n xs ≡ times n ys
  pub distinct : distinct xs ≡ distinct ys

same_refl : (xs : List ℕ) → AreSame xs xs
same_refl xs = record { times = λ n. refl; distinct = refl }

same_trans : (xs ys zs : List ℕ) → AreSame xs ys → AreSame ys zs → AreSame xs zs
same_trans xs ys zs a b = record { times = λ n. a.times n ∙ b.times n; distinct = a.distinct ∙ b.distinct }

among_same : (xs ys : List ℕ) (n : ℕ) → times n xs ≡ times n ys → is_among xs n ≡ is_among ys n
among_same xs ys n same = ⊎_elim
    (λ (none : times n xs ≡ 0). among_none xs n none ∙ sym (among_none ys n (sym same ∙ none)))
    (λ (some : times n xs ≡ 0 → ⊥).
    let more : 0 < times n xs = positive (times n xs) some in
    among_some xs n more ∙ sym (among_some ys n (subst (λ m. 0 < m) same more)))
    (cases_eq (times n xs) 0)
  where
    positive : (m : ℕ) → (m ≡ 0 → ⊥) → 0 < m
    positive zero some = absurd (some refl)
    positive (suc m) some = omega arith

pub same_cons : (k : ℕ) (xs ys : List ℕ) → AreSame xs ys → AreSame (k ∷ xs) (k ∷ ys)
same_cons k xs ys same = record {
  times = λ n. times_cons n k xs ∙ ap (λ m. one (eqb k n) + m) (same.times n) ∙ sym (times_cons n k ys);
  distinct = ap (λ d. one_more (is_among xs k) d) same.distinct
      ∙ ap (λ b. one_more b (distinct ys)) (among_same xs ys k (same.times k));
}

one_more-swap : (a b : Bool) (n : ℕ) → one_more a (one_more b n) ≡ one_more b (one_more a n)
one_more-swap true b n = refl
one_more-swap false true n = refl
one_more-swap false false n = refl

same_swap : (j k : ℕ) (ns : List ℕ) → AreSame (j ∷ k ∷ ns) (k ∷ j ∷ ns)
same_swap j k ns = ⊎_elim
    (λ (same : j ≡ k). subst (λ i. AreSame (j ∷ i ∷ ns) (i ∷ j ∷ ns)) same (same_refl (j ∷ j ∷ ns)))
    (λ (other : j ≡ k → ⊥). record {
      times = λ n. omega (
        arith,
        times_cons n j (k ∷ ns),
        times_cons n k ns,
        times_cons n k (j ∷ ns),
        times_cons n j
            ns,
      );
      distinct =
          ap (λ b. one_more (b || is_among ns j) (one_more (is_among ns k) (distinct ns)))
          (ne_eqb k j (λ e. other (sym e)))
          ∙ one_more-swap (is_among ns j) (is_among ns k) (distinct ns)
          ∙ sym (ap (λ b. one_more (b || is_among ns k) (one_more (is_among ns j) (distinct ns))) (ne_eqb j k other));
    })
    (cases_eq j k)

pub same_middle : (k : ℕ) (xs ys : List ℕ) → AreSame (k ∷ (xs ++ ys)) (xs ++ k ∷ ys)
same_middle k [] ys = same_refl (k ∷ ys)
same_middle k (x ∷ xs) ys = same_trans (k ∷ x ∷ (xs ++ ys)) (x ∷ k ∷ (xs ++ ys)) (x ∷ (xs ++ k ∷ ys))
    (same_swap k x (xs ++ ys)) (same_cons x (k ∷ (xs ++ ys)) (xs ++ k ∷ ys) (same_middle k xs ys))

-- ---- the holds for a block, and those for others

abbrev pub others_of : ℕ → List (ℕ × ℕ) → List (ℕ × ℕ)
others_of block holds = filter (λ h. not (eqb h.0 block)) holds

pub same_split : (block : ℕ) (holds : List (ℕ × ℕ))
    → AreSame (registers_of holds) (held_for block holds ++ registers_of (others_of block holds))
same_split block [] = same_refl []
same_split block (h ∷ holds) =
    let mine = held_for block holds in
    let others = registers_of (others_of block holds) in
    let rest = same_cons h.1 (registers_of holds) (mine ++ others) (same_split block holds) in
    elim (eqb h.0 block) as (λ b. AreSame (h.1 ∷ registers_of holds)
    (registers_of (cond b (h ∷ filter (λ g. eqb g.0 block) holds) (filter (λ g. eqb g.0 block) holds))
    ++ registers_of (cond (not b) (h ∷ others_of block holds) (others_of block holds)))) [
      | true ↦ rest
      | false ↦ same_trans (h.1 ∷ registers_of holds) (h.1 ∷ (mine ++ others)) (mine ++ h.1 ∷ others) rest
          (same_middle h.1 mine others)
    ]

one_more-le : (b : Bool) (n m : ℕ) → n ≤ m → one_more b n ≤ m + 1
one_more-le true n m h = omega arith
one_more-le false n m h = omega arith

pub distinct-le-length : (ns : List ℕ) → distinct ns ≤ length ns
distinct-le-length [] = omega arith
distinct-le-length (k ∷ ns) = let h = one_more-le (is_among ns k) (distinct ns) (length ns) (distinct-le-length ns) in
    omega (arith, h)
