-- A text whose first line has no newline is that line.
use Rattle.std.proofs.Common.{◌≡◌, ℕ, suc, ◌+◌, ◌≤◌, length, Bool, true, false, not, cond, List, [], ◌∷◌, refl, arith}
use Rattle.std.specs.List.{slice_split, onto_first, position_or_len}
use Rattle.explain_refusal.specs.Lines.{is_newline}

one_line : (t : Bool) (b : ℕ) (text : List ℕ) (n : ℕ) → (length text ≤ n → slice_split is_newline text ≡ text ∷ [])
    → suc (length text) ≤ cond (not t) (1 + n) 0
    → cond t ([] ∷ slice_split is_newline text) (onto_first b (slice_split is_newline text)) ≡ (b ∷ text) ∷ []
one_line true b text n only far = absurd (omega arith)
one_line false b text n only far = let all : slice_split is_newline text ≡ text ∷ [] = only (omega arith) in rw all refl

pub last_line : (text : List ℕ) → length text ≤ position_or_len is_newline text →
    slice_split is_newline text ≡ text ∷ []
last_line [] far = refl
last_line (b ∷ text) far = one_line (is_newline b) b text (position_or_len is_newline text) (last_line text) far
