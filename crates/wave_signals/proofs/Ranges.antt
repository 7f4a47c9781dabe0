-- One more part of a text that has a part for each number.
use Rattle.std.proofs.Common.{◌≡◌, ℕ, ◌+◌, List, [], ◌∷◌, ◌++◌, map, sym, ap, ◌∙◌, append-nil, arith}
use Rattle.std.specs.List.{flat_map, range_with_len}
use Rattle.std.proofs.lemmas.List.Concat.{flat_map-cons}
use Rattle.std.proofs.lemmas.List.Folds.{flat_map-map}
use Rattle.std.proofs.lemmas.List.FromFn.{map-range_with_len_more}
use Rattle.std.proofs.lemmas.Grind.{flat_map-append}

pub each_more : (f : ℕ → List ℕ) (n : ℕ) → flat_map f (range_with_len 0 n) ++ f n
    ≡ flat_map f (range_with_len 0 (n + 1))
each_more f n =
    let same = λ (xs : List ℕ). flat_map-map (λ (x : List ℕ). x) f xs in
    let one : flat_map (λ (x : List ℕ). x) (f n ∷ []) ≡ f n =
    flat_map-cons (λ (x : List ℕ). x) (f n) [] ∙ append-nil (f n) in
    sym (
    sym (same (range_with_len 0 (n + 1)))
    ∙ ap (λ (xs : List (List ℕ)). flat_map (λ (x : List ℕ). x) xs) (map-range_with_len_more f 0 n n (omega arith))
    ∙ flat_map-append (λ (x : List ℕ). x) (map f (range_with_len 0 n)) (f n ∷ [])
    ∙ ap (λ (l : List ℕ). flat_map (λ (x : List ℕ). x) (map f (range_with_len 0 n)) ++ l) one
    ∙ ap (λ (l : List ℕ). l ++ f n) (same (range_with_len 0 n))
    )
