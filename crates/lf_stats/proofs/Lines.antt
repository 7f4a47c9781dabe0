-- One more line.
use Rattle.std.proofs.Common.{◌≡◌, ℕ, zero, suc, ◌+◌, ◌<◌, List, [], ◌∷◌, ◌++◌, length, take, get_or, sym, ap, ◌∙◌}
use Rattle.std.proofs.Common.{arith}
use Rattle.std.proofs.lemmas.List.{append-nil, append_assoc}
use Rattle.lf_stats.specs.Text.{lines_from}

module _ {X : Type 0} (line : ℕ → X → List ℕ) where
  pub lines_more : (from : ℕ) (xs : List X) (n : ℕ) (d : X) → n < length xs
      → lines_from line from (take (n + 1) xs) ≡ lines_from line from (take n xs) ++ line (from + n) (get_or xs n d)
  lines_more from [] n d inside = absurd (omega arith)
  lines_more from (x ∷ xs) zero d inside =
      let here : from ≡ from + 0 = omega arith in
      append-nil (line from x) ∙ ap (λ k. line k x) here
  lines_more from (x ∷ xs) (suc n) d inside =
      let more : suc n + 1 ≡ suc (n + 1) = omega arith in
      let there : from + 1 + n ≡ from + suc n = omega arith in
      ap (λ k. lines_from line from (take k (x ∷ xs))) more
      ∙ ap (λ rest. line from x ++ rest) (lines_more (from + 1) xs n d (omega arith)
      ∙ ap (λ k. lines_from line (from + 1) (take n xs) ++ line k (get_or xs n d)) there)
      ∙ sym (append_assoc (line from x) (lines_from line (from + 1) (take n xs)) (line (from + suc n) (get_or xs n d)))

  pub lines_next : (xs : List X) (n : ℕ) (d : X) → n < length xs
      → lines_from line 0 (take (n + 1) xs) ≡ lines_from line 0 (take n xs) ++ line n (get_or xs n d)
  lines_next xs n d inside =
      let here : 0 + n ≡ n = omega arith in
      lines_more 0 xs n d inside ∙ ap (λ k. lines_from line 0 (take n xs) ++ line k (get_or xs n d)) here

pub grouped : (a b c d e : List ℕ) → a ++ b ++ c ++ d ++ e ≡ a ++ (b ++ (c ++ (d ++ e)))
grouped a b c d e = append_assoc (a ++ b ++ c) d e ∙ append_assoc (a ++ b) c (d ++ e) ∙ append_assoc a b (c ++ (d ++ e))
