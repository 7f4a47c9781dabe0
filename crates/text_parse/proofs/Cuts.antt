-- Blanks and words, by how long they are.
use Rattle.std.proofs.Common.{◌≡◌, ℕ, suc, ◌+◌, Bool, true, false, cond, List, [], ◌∷◌, take, drop, refl, ap, arith}
use Rattle.std.specs.List.{prefix_len}
use Rattle.text_parse.specs.Words.{is_blank, is_of_word, without_blanks, word_of, after_word}

one_add : (n : ℕ) → 1 + n ≡ suc n
one_add n = omega arith

blanks_step : (t : Bool) (b : ℕ) (text : List ℕ) (n : ℕ) → drop n text ≡ without_blanks text
    → drop (cond t (1 + n) 0) (b ∷ text) ≡ cond t (without_blanks text) (b ∷ text)
blanks_step true b text n h = rw (one_add n) h
blanks_step false b text n h = refl

pub blanks_dropped : (text : List ℕ) → drop (prefix_len is_blank text) text ≡ without_blanks text
blanks_dropped [] = refl
blanks_dropped (b ∷ text) = blanks_step (is_blank b) b text (prefix_len is_blank text) (blanks_dropped text)

word_step : (t : Bool) (b : ℕ) (text : List ℕ) (n : ℕ) → take n text ≡ word_of text
    → take (cond t (1 + n) 0) (b ∷ text) ≡ cond t (b ∷ word_of text) []
word_step true b text n h = rw (one_add n) (ap (λ (word : List ℕ). b ∷ word) h)
word_step false b text n h = refl

pub word_taken : (text : List ℕ) → take (prefix_len is_of_word text) text ≡ word_of text
word_taken [] = refl
word_taken (b ∷ text) = word_step (is_of_word b) b text (prefix_len is_of_word text) (word_taken text)

rest_step : (t : Bool) (b : ℕ) (text : List ℕ) (n : ℕ) → drop n text ≡ after_word text
    → drop (cond t (1 + n) 0) (b ∷ text) ≡ cond t (after_word text) (b ∷ text)
rest_step true b text n h = rw (one_add n) h
rest_step false b text n h = refl

pub word_dropped : (text : List ℕ) → drop (prefix_len is_of_word text) text ≡ after_word text
word_dropped [] = refl
word_dropped (b ∷ text) = rest_step (is_of_word b) b text (prefix_len is_of_word text) (word_dropped text)
