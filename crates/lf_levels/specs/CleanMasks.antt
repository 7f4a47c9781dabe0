-- Masks of no bytes.
use Rattle.std.specs.Prelude.{◌≡◌, Bool, true, ◌==◌, List, [], ◌∷◌, bit_or}
use Rattle.std.specs.List.{list_all}
use Rattle.std.specs.Int.Bits.{or_zero_r}
use Rattle.std.proofs.Common.{refl, ap, ap₂, ◌∙◌, eqb-true}
use Rattle.std.proofs.lemmas.Bool.{and_parts}
use Rattle.lf_rules.specs.declared.mask.Mask.{Mask}
use Rattle.lf_levels.specs.LineTable.{joined}

-- has none of the masks a byte?
abbrev pub are_clean : List Mask → Bool
are_clean masks = list_all (λ mask. mask.0 == 0) masks

-- such masks leave the others as they are
pub joined_clean : (ms others : List Mask) → are_clean others ≡ true → joined ms others ≡ ms
joined_clean [] others none = refl
joined_clean (m ∷ ms) [] none = refl
joined_clean (m ∷ ms) (o ∷ others) none =
    let both = and_parts (o.0 == 0) (are_clean others) none in
    ap₂ (λ (x : Mask) (xs : List Mask). x ∷ xs)
    (ap (λ n. record { 0 = bit_or m.0 n }) (eqb-true o.0 0 both.0) ∙ ap (λ n. record { 0 = n }) (or_zero_r m.0))
    (joined_clean ms others both.1)
