-- An entry of a table, or none, as two numbers.
use Rattle.std.specs.Prelude.{◌≡◌, ℕ, Option, Some, None, zero, suc}
use Rattle.std.proofs.Common.{refl, sym, ap}

-- the entry of this number and this code: none where the code is 0, and otherwise at the place below it
abbrev pub entry_of : ℕ → ℕ → Option (ℕ × ℕ)
entry_of number zero = None
entry_of number (suc place) = Some (number, place)

abbrev pub number_of : Option (ℕ × ℕ) → ℕ
number_of None = 0
number_of (Some e) = e.0

abbrev pub code_of : Option (ℕ × ℕ) → ℕ
code_of None = 0
code_of (Some e) = suc e.1

-- no two slots are of one entry
pub slot_again : {X : Type 0} (make : ℕ → ℕ → X) (number code : ℕ) → (code ≡ 0 → number ≡ 0)
    → make (number_of (entry_of number code)) (code_of (entry_of number code)) ≡ make number code
slot_again make number zero none = ap (λ n. make n 0) (sym (none refl))
slot_again make number (suc place) none = refl
