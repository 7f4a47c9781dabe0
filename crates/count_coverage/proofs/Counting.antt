-- One more record, and the counts of the points.
use Rattle.std.proofs.Common.{◌≡◌, ℕ, zero, suc, ◌+◌, ◌<◌, ◌≤◌, ◌^◌, Bool, true, false, cond, List, Some, length}
use Rattle.std.proofs.Common.{get_or, set, refl, sym, ap, ◌∙◌, ⊎_elim, arith}
use Rattle.std.proofs.Math.ListN.{replicate}
use Rattle.std.specs.List.{slice_get}
use Rattle.std.proofs.lemmas.Bool.{cases_eq}
use Rattle.std.proofs.lemmas.List.{get_or-set_same, get_or-set_other}
use Rattle.lf_rules.specs.declared.shape.Shape.{Shape}
use Rattle.lf_rules.specs.declared.event.Record.{Record}
use Rattle.lf_stats.specs.Statistics.{held_count}
use Rattle.count_coverage.specs.declared.point.BankPoint.{BankPoint}
use Rattle.count_coverage.specs.declared.point.BankPoint.TheVariants.{Numbered}
use Rattle.count_coverage.specs.declared.sight.Sight.{Sight}
use Rattle.count_coverage.specs.declared.counts.Counts.{Counts}
use Rattle.count_coverage.specs.Sights.{sight}
use Rattle.count_coverage.specs.Points.{reaches, reached}
use Rattle.count_coverage.specs.Counted.{kind_at, AreFew, AreCounts}
use Rattle.count_coverage.proofs.Tallies.{reached_le, reached_at}

-- ---- no record

abbrev nought : ℕ
nought = 0

pub none : (n place : ℕ) → get_or (replicate n nought) place nought ≡ nought
none zero place = refl
none (suc n) zero = refl
none (suc n) (suc place) = none n place

-- ---- one more place of a list of counts

module _ (first now : List ℕ) (i : ℕ) (inside : i < length now)
    (rest : (n : ℕ) → i ≤ n → get_or now n 0 ≡ get_or first n 0) where
  abbrev one_more : Bool → List ℕ
  one_more b = cond b (set now i (get_or now i 0 + 1)) now

  there : (b : Bool) → get_or (one_more b) i 0 ≡ get_or first i 0 + cond b 1 0
  there true = get_or-set_same now i (get_or now i 0 + 1) 0 inside ∙ ap (λ k. k + 1) (rest i (omega arith))
  there false = let none : get_or first i 0 ≡ get_or first i 0 + 0 = omega arith in rest i (omega arith) ∙ none

  elsewhere : (b : Bool) (n : ℕ) → (n ≡ i → ⊥) → get_or (one_more b) n 0 ≡ get_or now n 0
  elsewhere true n other = get_or-set_other now i n (get_or now i 0 + 1) 0 other
  elsewhere false n other = refl

  pub rest_next : (b : Bool) (after : List ℕ) → after ≡ one_more b → (n : ℕ) → i + 1 ≤ n
      → get_or after n 0 ≡ get_or first n 0
  rest_next b after e n above =
      ap (λ xs. get_or xs n 0) e ∙ elsewhere b n (λ same. omega arith) ∙ rest n (omega arith)

  pub done_next : (bit : ℕ → Bool) → ((n : ℕ) → n < i → get_or now n 0 ≡ get_or first n 0 + cond (bit n) 1 0)
      → (after : List ℕ) → after ≡ one_more (bit i) → (n : ℕ) → n < i + 1
      → get_or after n 0 ≡ get_or first n 0 + cond (bit n) 1 0
  done_next bit done after e n below =
      ap (λ xs. get_or xs n 0) e
      ∙ ⊎_elim
      (λ (same : n ≡ i). ap (λ k. get_or (one_more (bit i)) k 0) same ∙ there (bit i)
      ∙ ap (λ k. get_or first k 0 + cond {A = ℕ} (bit k) 1 0) (sym same))
      (λ (other : n ≡ i → ⊥). elsewhere (bit i) n other ∙ done n (omega (arith, other)))
      (cases_eq n i)

-- ---- one more record

same_counts : (counts : Counts) (f g : BankPoint → ℕ) → ((point : BankPoint) → f point ≡ g point) → AreCounts counts f
    → AreCounts counts g
same_counts counts f g same are = record {
  of_kinds = λ n below. are.of_kinds n below ∙ same (kind_at n);
  of_numbers = λ measure n below. are.of_numbers measure n below ∙ same (Numbered measure n);
}

module _ (shape : Shape) (rs : List Record) (n : ℕ) where
  pub few_reached : (counts : Counts) → n < 2 ^ 29 → AreCounts counts (λ point. reached shape rs point n) →
      AreFew counts
  few_reached counts small are = record {
    of_kinds = λ k below. omega (arith, are.of_kinds k below, reached_le shape rs (kind_at k) n);
    of_numbers = λ measure k below.
        omega (arith, are.of_numbers measure k below, reached_le shape rs (Numbered measure k) n);
  }

  pub counted_next : (r : Record) (before after : ℕ) (seen : Sight) (counts next : Counts) → slice_get rs n ≡ Some r
      → before ≡ held_count shape rs n → after ≡ held_count shape rs (n + 1) → seen ≡ sight shape rs n
      → ((count : BankPoint → ℕ) → AreCounts counts count → AreCounts next
      (λ point. count point + cond (reaches shape point before after seen r.event) 1 0))
      → AreCounts counts (λ point. reached shape rs point n) → AreCounts next (λ point. reached shape rs point (n + 1))
  counted_next r before after seen counts next here first second saw step was =
      let so_far = λ (point : BankPoint). reached shape rs point n in
      let now = λ (k l : ℕ) (s : Sight) (point : BankPoint).
      so_far point + cond {A = ℕ} (reaches shape point k l s r.event) 1 0 in
      same_counts next (now before after seen) (λ point. reached shape rs point (n + 1))
      (λ (point : BankPoint). ap (λ (k : ℕ). now k after seen point) first
      ∙ ap (λ (k : ℕ). now (held_count shape rs n) k seen point) second
      ∙ ap (λ (s : Sight). now (held_count shape rs n) (held_count shape rs (n + 1)) s point) saw
      ∙ sym (reached_at shape rs point n r here))
      (step so_far was)
