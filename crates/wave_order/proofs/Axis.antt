-- One more record on the axis.
use Rattle.std.proofs.Common.{◌≡◌, ℕ, ◌+◌, ◌<◌, List, [], ◌∷◌, ◌++◌, length, drop, get_or, sym, ap, ◌∙◌, append_assoc}
use Rattle.std.proofs.lemmas.List.{drop_more}
use Rattle.explain_lines.specs.declared.times.Times.{Times}
use Rattle.wave_order.specs.Times.{one_more_of, at_time, behind, axis_from}

module _ (times : Times) (counts : List ℕ) (least : ℕ) (logs : List ℕ) (i at left : ℕ)
    (counted before after : List ℕ) where
  abbrev log : ℕ
  log = get_or logs i 0

  abbrev rest : List ℕ
  rest = drop (i + 1) logs

  pub axis_more : i < length logs → at ≡ at_time times counts least log →
      counted ≡ one_more_of counts log → left ≡ behind at → after ≡ before ++ at ∷ [] →
      after ++ axis_from times counted left rest ≡ before ++ axis_from times counts least (drop i logs)
  axis_more within placed one next pushed =
      ap (λ (xs : List ℕ). xs ++ axis_from times counted left rest) pushed
      ∙ append_assoc before (at ∷ []) (axis_from times counted left rest)
      ∙ ap (λ (xs : List ℕ). before ++ xs) (
      ap (λ (cs : List ℕ). at ∷ axis_from times cs left rest) one
      ∙ ap (λ (l : ℕ). at ∷ axis_from times (one_more_of counts log) l rest) next
      ∙ ap (λ (a : ℕ). a ∷ axis_from times (one_more_of counts log) (behind a) rest) placed
      ∙ sym (ap (axis_from times counts least) (drop_more logs i 0 within))
      )
