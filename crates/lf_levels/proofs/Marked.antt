-- The mask at one place that gains bytes.
use Rattle.std.proofs.Common.{ℕ, ◌≡◌, ◌==◌, true, ap, ◌∙◌, length-set}
use Rattle.std.specs.Prelude.{bit_or, slice_set}
use Rattle.std.specs.Int.Bits.{or_zero_r}
use Rattle.std.proofs.lemmas.List.{set-get_or}
use Rattle.lf_rules.specs.Address.{Masks, clean_mask, mask_at}
use Rattle.lf_rules.specs.Lines.{marked}
use Rattle.lf_levels.specs.LineTable.{is_line2}

-- a mask for each block is still one for each
pub marked_keeps : (factor : ℕ) (masks : Masks) (place mask : ℕ) → is_line2 factor masks ≡ true →
    is_line2 factor (marked masks place mask) ≡ true
marked_keeps factor masks place mask e =
    ap (λ n. n == factor) (length-set masks.items place (record { 0 = bit_or (mask_at masks place) mask })) ∙ e

-- no bytes leave the masks as they are
pub marked_none : (masks : Masks) (place mask : ℕ) → mask ≡ 0 → marked masks place mask ≡ masks
marked_none masks place mask none =
    ap (λ n. record { items = slice_set masks.items place (record { 0 = n }) })
    (ap (bit_or (mask_at masks place)) none ∙ or_zero_r (mask_at masks place))
    ∙ ap (λ ms. record { items = ms }) (set-get_or masks.items place clean_mask)
