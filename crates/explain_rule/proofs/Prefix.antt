-- How long the common prefix of two lists is, from a place on, and lists one after another.
use Rattle.std.proofs.Common.{◌≡◌, ℕ, ◌≤◌, nat_eq, List, [], ◌∷◌, ◌++◌, length, drop, refl, ap, ◌∙◌}
use Rattle.std.specs.List.{common_prefix_len}
use Rattle.std.proofs.lemmas.List.{drop_all, append_assoc}

none_right : (xs : List ℕ) → common_prefix_len nat_eq xs [] ≡ 0
none_right [] = refl
none_right (x ∷ xs) = refl

pub at_end_left : (xs ys : List ℕ) (n : ℕ) → length xs ≤ n → common_prefix_len nat_eq (drop n xs) ys ≡ 0
at_end_left xs ys n le = ap (λ (zs : List ℕ). common_prefix_len nat_eq zs ys) (drop_all n xs le)

pub at_end_right : (xs ys : List ℕ) (n : ℕ) → length ys ≤ n → common_prefix_len nat_eq xs (drop n ys) ≡ 0
at_end_right xs ys n le = ap (λ (zs : List ℕ). common_prefix_len nat_eq xs zs) (drop_all n ys le) ∙ none_right xs

pub grouped : (a b c d e : List ℕ) → a ++ b ++ c ++ d ++ e ≡ a ++ (b ++ (c ++ (d ++ e)))
grouped a b c d e = append_assoc (a ++ b ++ c) d e ∙ append_assoc (a ++ b) c (d ++ e) ∙ append_assoc a b (c ++ (d ++ e))

pub grouped_six : (a b c d e f : List ℕ) → a ++ b ++ c ++ d ++ e ++ f ≡ a ++ (b ++ (c ++ (d ++ (e ++ f))))
grouped_six a b c d e f = simp append_assoc

pub grouped_seven : (a b c d e f g : List ℕ) →
    a ++ b ++ c ++ d ++ e ++ f ++ g ≡ a ++ (b ++ (c ++ (d ++ (e ++ (f ++ g)))))
grouped_seven a b c d e f g = simp append_assoc
