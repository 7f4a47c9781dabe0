-- Where each record carries its place among those of its bank, the numbers are 0, 1, 2, ..
use Rattle.std.proofs.Common.{◌≡◌, ℕ, suc, ◌+◌, List, [], ◌∷◌, map, length, Some, refl, arith, ◌∙◌}
use Rattle.std.specs.Prelude.{slice_get}
use Rattle.std.specs.List.{range_with_len}
use mathlib.Core.Path.{ap₂}
use Rattle.lf_rules.specs.declared.event.Record.{Record}
use Rattle.lf_rules.specs.Run.{of_bank, KeepsNumbers}
use Rattle.lf_recorder.specs.Rule.{CountsUp}

counts_from : (start : ℕ) (rs : List Record) → ((k : ℕ) (r : Record) → slice_get rs k ≡ Some r → r.number ≡ start + k)
    → map (λ (r : Record). r.number) rs ≡ range_with_len start (length rs)
counts_from start [] at = refl
counts_from start (r ∷ rs) at =
    ap₂ (λ (n : ℕ) (ns : List ℕ). n ∷ ns) (at 0 r refl ∙ omega arith)
    (counts_from (start + 1) rs (λ k x e. at (suc k) x e ∙ omega arith))

pub keeps_numbers : (all : List Record) → CountsUp all → KeepsNumbers all
keeps_numbers all counts bank lt = counts_from 0 (of_bank bank all) (λ k r e. counts bank k r lt e ∙ omega arith)
