-- A text is its first line, and the lines behind that.
use Rattle.std.proofs.Common.{◌≡◌, ℕ, suc, ◌+◌, ◌-◌, ◌<◌, ◌≤◌, length, sym, Bool, true, false, not, cond, List, []}
use Rattle.std.proofs.Common.{◌∷◌, take, drop, refl, ap, ◌∙◌, arith}
use Rattle.std.proofs.Math.Seq.{take-length}
use Rattle.std.specs.List.{slice_split, onto_first, position_or_len}
use Rattle.text_assemble.specs.Assembly.{is_newline}

-- the lines behind the first one, which ends here
abbrev pub lines_behind : List ℕ → List (List ℕ)
lines_behind [] = []
lines_behind (b ∷ text) = slice_split is_newline text

one_add : (n : ℕ) → 1 + n ≡ suc n
one_add n = omega arith

cut_step : (t : Bool) (b : ℕ) (text : List ℕ) (n : ℕ) → slice_split is_newline text ≡ take n text
    ∷ lines_behind (drop n text)
    → cond t ([] ∷ slice_split is_newline text) (onto_first b (slice_split is_newline text))
    ≡ take (cond (not t) (1 + n) 0) (b ∷ text) ∷ lines_behind (drop (cond (not t) (1 + n) 0) (b ∷ text))
cut_step true b text n h = refl
cut_step false b text n h = rw (one_add n, h) refl

pub first_cut : (text : List ℕ)
    → slice_split is_newline text ≡ take (position_or_len is_newline text) text
    ∷ lines_behind (drop (position_or_len is_newline text) text)
first_cut [] = refl
first_cut (b ∷ text) = cut_step (is_newline b) b text (position_or_len is_newline text) (first_cut text)

whole : (text line rest : List ℕ) (n : ℕ) → n ≡ position_or_len is_newline text → line ≡ take n text →
    rest ≡ drop n text
    → slice_split is_newline text ≡ line ∷ lines_behind rest
whole text line rest n is front back = rw (front, back, is) (first_cut text)

behind_none : (rest : List ℕ) → length rest < 1 → lines_behind rest ≡ []
behind_none [] none = refl
behind_none (b ∷ rest) none = absurd (omega arith)

behind_some : (rest : List ℕ) → 1 ≤ length rest → lines_behind rest
    ≡ slice_split is_newline (take (length rest - 1) (drop 1 rest))
behind_some [] some = absurd (omega arith)
behind_some (b ∷ rest) some =
    let len : suc (length rest) - 1 ≡ length rest = omega arith in
    ap (slice_split is_newline) (sym (ap (λ (n : ℕ). take n rest) len ∙ take-length rest))

pub last_cut : (text line rest : List ℕ) (n : ℕ) → n ≡ position_or_len is_newline text → line ≡ take n text →
    rest ≡ drop n text
    → length rest < 1 → slice_split is_newline text ≡ line ∷ []
last_cut text line rest n is front back none =
    whole text line rest n is front back ∙ ap (λ (texts : List (List ℕ)). line ∷ texts) (behind_none rest none)

pub more_cut : (text line rest : List ℕ) (n : ℕ) → n ≡ position_or_len is_newline text → line ≡ take n text →
    rest ≡ drop n text
    → 1 ≤ length rest → slice_split is_newline text ≡ line ∷ slice_split is_newline
    (take (length rest - 1) (drop 1 rest))
more_cut text line rest n is front back some =
    whole text line rest n is front back ∙ ap (λ (texts : List (List ℕ)). line ∷ texts) (behind_some rest some)
