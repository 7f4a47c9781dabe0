-- What one more record changes.
use Rattle.std.proofs.Common.{◌≡◌, ℕ, ◌+◌, ◌≤◌, List, [], ◌∷◌, length, take, Some, ap, ◌∙◌, add-one, arith}
use Rattle.std.specs.List.{slice_get, fold}
use Rattle.std.proofs.lemmas.List.{length-take}
use Rattle.std.proofs.lemmas.List.Sums.{fold-append}
use Rattle.lf_rules.specs.declared.event.Event.{Event}
use Rattle.lf_rules.specs.declared.event.Record.{Record}
use Rattle.lf_stats.proofs.Orders.{take_at}
use Rattle.count_usage.specs.declared.change.Change.{Change}
use Rattle.count_usage.specs.Changes.{latest_first}

module _ (change : Event → Change) where
  pub latest_next : (rs : List Record) (n : ℕ) (r : Record) → slice_get rs n ≡ Some r
      → latest_first change (take (n + 1) rs) ≡ change r.event ∷ latest_first change (take n rs)
  latest_next rs n r e =
      ap (λ m. latest_first change (take m rs)) (add-one n) ∙ ap (latest_first change) (take_at rs n r e)
      ∙ fold-append (λ (before : List Change) (r : Record). change r.event ∷ before) [] (take n rs) (r ∷ [])

  longer : (before : List Change) (rs : List Record) → length
      (fold (λ (cs : List Change) (r : Record). change r.event ∷ cs) before rs) ≡ length before + length rs
  longer before [] = omega arith
  longer before (r ∷ rs) = omega (arith, longer (change r.event ∷ before) rs)

  pub latest_le : (rs : List Record) (n : ℕ) → length (latest_first change (take n rs)) ≤ n
  latest_le rs n = omega (arith, longer [] (take n rs), length-take n rs)
