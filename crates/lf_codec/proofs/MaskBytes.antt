-- The masks of a second-level block, as they are spelled and read.
use Rattle.std.proofs.Common.{◌≡◌, ℕ, zero, suc, ◌+◌, ◌*◌, ◌^◌, ◌<◌, ◌≤◌, true, List, [], ◌∷◌, ◌++◌, length, drop}
use Rattle.std.proofs.Common.{refl, sym, ap, ◌∙◌, arith, append_assoc, add-one}
use Rattle.std.specs.Prelude.{slice_index_or}
use Rattle.std.specs.List.{list_all, flat_map}
use Rattle.std.specs.Int.RustNames.{count_ones}
use Rattle.std.proofs.lemmas.Bool.{lt-ltb, ltb-true, and_from, and_parts}
use Rattle.std.proofs.lemmas.List.{nil_from_length, length-append, length-drop, drop_at, drop-drop}
use Rattle.std.proofs.lemmas.List.Concat.{flat_map-cons}
use Rattle.std.proofs.lemmas.Nat.{ones-le, pow_pos}
use Rattle.std.proofs.Math.Pow.{pow_mono}
use Rattle.lf_rules.specs.declared.mask.Mask.{Mask}
use Rattle.lf_rules.specs.Address.{clean_mask}
use Rattle.lf_rules.specs.Fits.{masks_len}
use Rattle.lf_codec.specs.Layout.{u64_bytes, mask_bytes}
use Rattle.lf_codec.specs.Checks.{u64_at, masks_at, mask_fits}
use Rattle.lf_codec.proofs.Numbers.{IsBytes, IsBytes-drop, length-u64_bytes, u64_again, u64_stands}

pub length-masks_at : (n : ℕ) (bytes : List ℕ) → length (masks_at n bytes) ≡ n
length-masks_at zero bytes = refl
length-masks_at (suc n) bytes = ap suc (length-masks_at n (drop 8 bytes))

pub length-mask_bytes : (masks : List Mask) → length (flat_map mask_bytes masks) ≡ 8 * length masks
length-mask_bytes [] = refl
length-mask_bytes (m ∷ masks) =
    omega (
      arith,
      ap length (flat_map-cons mask_bytes m masks),
      length-append (u64_bytes m.0)
          (flat_map mask_bytes masks),
      length-u64_bytes m.0,
      length-mask_bytes masks,
    )

u64_later : (n : ℕ) (bytes : List ℕ) → u64_at (8 * n) (drop 8 bytes) ≡ u64_at (8 + 8 * n) bytes
unfolding u64_at
u64_later n bytes = rw (drop-drop (8 * n) 8 bytes) refl

-- one mask more
more_masks : (n : ℕ) (bytes : List ℕ) → masks_at (suc n) bytes ≡ masks_at n bytes
    ++ record { 0 = u64_at (8 * n) bytes } ∷ []
more_masks zero bytes = refl
more_masks (suc n) bytes =
    let place : 8 + 8 * n ≡ 8 * suc n = omega arith in
    let last : u64_at (8 * n) (drop 8 bytes) ≡ u64_at (8 * suc n) bytes =
    u64_later n bytes ∙ ap (λ (i : ℕ). u64_at i bytes) place in
    ap (λ (t : List Mask). record { 0 = u64_at 0 bytes } ∷ t)
    (more_masks n (drop 8 bytes) ∙ ap (λ (x : ℕ). masks_at n (drop 8 bytes) ++ record { 0 = x } ∷ []) last)

pub masks_more : (n : ℕ) (bytes : List ℕ) → masks_at (n + 1) bytes ≡ masks_at n bytes
    ++ record { 0 = u64_at (8 * n) bytes } ∷ []
masks_more n bytes = rw add-one (more_masks n bytes)

-- each mask is one of so many bits
abbrev pub AllBelow : ℕ → List Mask → Type 0
AllBelow size masks = (k : ℕ) → (slice_index_or masks k clean_mask).0 < 2 ^ size

pub masks_wide : (size : ℕ) (masks : List Mask) → size ≤ 64 → AllBelow size masks → AllBelow 64 masks
masks_wide size masks le below k = let wide : 2 ^ size ≤ 2 ^ 64 = pow_mono le in let fits = below k in omega arith

pub masks_again : (masks : List Mask) (rest : List ℕ) → AllBelow 64 masks →
    masks_at (length masks) (flat_map mask_bytes masks ++ rest) ≡ masks
masks_again [] rest below = refl
masks_again (m ∷ masks) rest below =
    let whole : flat_map mask_bytes (m ∷ masks) ++ rest ≡ u64_bytes m.0 ++ (flat_map mask_bytes masks ++ rest) =
    ap (λ (t : List ℕ). t ++ rest) (flat_map-cons mask_bytes m masks)
    ∙ append_assoc (u64_bytes m.0) (flat_map mask_bytes masks) rest in
    let first : u64_at 0 (u64_bytes m.0 ++ (flat_map mask_bytes masks ++ rest)) ≡ m.0 =
    u64_again m.0 (flat_map mask_bytes masks ++ rest) (below 0) in
    let later : drop 8 (u64_bytes m.0 ++ (flat_map mask_bytes masks ++ rest)) ≡ flat_map mask_bytes masks ++ rest =
    drop_at (u64_bytes m.0) (flat_map mask_bytes masks ++ rest) 8 (length-u64_bytes m.0) in
    ap (masks_at (length (m ∷ masks))) whole
    ∙ ap (λ (x : ℕ). record { 0 = x } ∷ masks_at (length masks)
    (drop 8 (u64_bytes m.0 ++ (flat_map mask_bytes masks ++ rest)))) first
    ∙ ap (λ (t : List ℕ). m ∷ masks_at (length masks) t) later
    ∙ ap (λ (t : List Mask). m ∷ t) (masks_again masks rest (λ k. below (suc k)))

pub masks_stand : (n : ℕ) (bytes : List ℕ) → length bytes ≡ 8 * n → IsBytes bytes →
    flat_map mask_bytes (masks_at n bytes) ≡ bytes
masks_stand zero bytes len fits = sym (nil_from_length bytes (omega (arith, len)))
masks_stand (suc n) bytes len fits =
    let m : Mask = record { 0 = u64_at 0 bytes } in
    let rest : length (drop 8 bytes) ≡ 8 * n = omega (arith, len, length-drop 8 bytes) in
    flat_map-cons mask_bytes m (masks_at n (drop 8 bytes))
    ∙ ap (λ (t : List ℕ). u64_bytes (u64_at 0 bytes) ++ t) (masks_stand n (drop 8 bytes) rest
    (IsBytes-drop 8 bytes fits))
    ∙ sym (u64_stands 0 bytes (omega (arith, len)) fits)

-- ---- the check

pub masks_below : (size : ℕ) (masks : List Mask) → list_all (λ mask. mask_fits size mask.0) masks ≡ true →
    AllBelow size masks
masks_below size [] e k = pow_pos size
masks_below size (m ∷ masks) e zero = ltb-true _ _ (and_parts _ _ e).0
masks_below size (m ∷ masks) e (suc k) = masks_below size masks (and_parts _ _ e).1 k

pub masks_pass : (size : ℕ) (masks : List Mask) → AllBelow size masks →
    list_all (λ mask. mask_fits size mask.0) masks ≡ true
masks_pass size [] below = refl
masks_pass size (m ∷ masks) below = and_from _ _ (lt-ltb _ _ (below 0)) (masks_pass size masks (λ k. below (suc k)))

pub masks_few : (size : ℕ) (masks : List Mask) → size ≤ 64 → AllBelow size masks → masks_len masks ≤ 64 * length masks
masks_few size [] le below = omega arith
masks_few size (m ∷ masks) le below =
    let few : count_ones m.0 ≤ size = ones-le size m.0 (below 0) in
    omega (arith, few, le, masks_few size masks le (λ k. below (suc k)))
