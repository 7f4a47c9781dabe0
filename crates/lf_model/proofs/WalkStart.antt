-- A walk before its first place.
use Rattle.std.proofs.Common.{◌≡◌, ℕ, List, [], ◌∷◌, replicate, length, slice_index, refl, ap}
use mathlib.Core.Path.{fun_ext}
use Rattle.lf_rules.specs.declared.event.Record.{Record}
use Rattle.bank_state.proofs.Bytes.{zeros}
use Rattle.lf_model.specs.Walk.{left_of}

pub left_all : (logs : List (List Record)) → left_of (replicate (length logs) 0) logs ≡ logs
left_all [] = refl
left_all (rs ∷ logs) = ap (λ (l : List (List Record)). rs ∷ l) (left_all logs)

pub all_zero : (n : ℕ) → slice_index (replicate n 0) ≡ (λ _. 0)
all_zero n = fun_ext (zeros n)
