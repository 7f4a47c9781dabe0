-- Lists one after another, as they are written.
use Rattle.std.proofs.Common.{◌≡◌, ℕ, List, ◌++◌, ◌∙◌}
use Rattle.std.proofs.lemmas.List.{append_assoc}

pub three : (a b c : List ℕ) → a ++ b ++ c ≡ a ++ (b ++ c)
three a b c = append_assoc a b c

pub four : (a b c d : List ℕ) → a ++ b ++ c ++ d ≡ a ++ (b ++ (c ++ d))
four a b c d = append_assoc (a ++ b) c d ∙ append_assoc a b (c ++ d)

pub five : (a b c d e : List ℕ) → a ++ b ++ c ++ d ++ e ≡ a ++ (b ++ (c ++ (d ++ e)))
five a b c d e = append_assoc (a ++ b ++ c) d e ∙ four a b c (d ++ e)

pub six : (a b c d e f : List ℕ) → a ++ b ++ c ++ d ++ e ++ f ≡ a ++ (b ++ (c ++ (d ++ (e ++ f))))
six a b c d e f = append_assoc (a ++ b ++ c ++ d) e f ∙ five a b c d (e ++ f)

pub seven : (a b c d e f g : List ℕ) → a ++ b ++ c ++ d ++ e ++ f ++ g ≡ a ++ (b ++ (c ++ (d ++ (e ++ (f ++ g)))))
seven a b c d e f g = append_assoc (a ++ b ++ c ++ d ++ e) f g ∙ six a b c d e (f ++ g)

pub eight : (a b c d e f g h : List ℕ)
    → a ++ b ++ c ++ d ++ e ++ f ++ g ++ h ≡ a ++ (b ++ (c ++ (d ++ (e ++ (f ++ (g ++ h))))))
eight a b c d e f g h = append_assoc (a ++ b ++ c ++ d ++ e ++ f) g h ∙ seven a b c d e f (g ++ h)

pub nine : (a b c d e f g h i : List ℕ)
    → a ++ b ++ c ++ d ++ e ++ f ++ g ++ h ++ i ≡ a ++ (b ++ (c ++ (d ++ (e ++ (f ++ (g ++ (h ++ i)))))))
nine a b c d e f g h i = append_assoc (a ++ b ++ c ++ d ++ e ++ f ++ g) h i ∙ eight a b c d e f g (h ++ i)
