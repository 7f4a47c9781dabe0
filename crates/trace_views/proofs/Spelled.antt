-- The masks that bytes spell, by their places.
use Rattle.std.proofs.Common.{◌≡◌, ℕ, zero, suc, ◌*◌, ◌<◌, ◌≤◌, List, length, take, drop, refl, ap}
use Rattle.std.proofs.Common.{◌∙◌, arith, slice_index_or, lit<}
use Rattle.std.proofs.lemmas.List.{drop-drop, get_or-take}
use Rattle.std.specs.Int.{from_le_bytes, w64}
use Rattle.lf_rules.specs.Address.{clean_mask}
use Rattle.trace_views.specs.Views.{spelled_masks}

pub spelled_len : (n : ℕ) (bytes : List ℕ) → length (spelled_masks n bytes) ≡ n
spelled_len zero bytes = refl
spelled_len (suc n) bytes = ap suc (spelled_len n (drop 8 bytes))

-- each of them is spelled by its own eight bytes
pub spelled_at : (n place : ℕ) (bytes : List ℕ) → place < n →
    slice_index_or (spelled_masks n bytes) place clean_mask ≡ record { 0 = from_le_bytes w64 (drop (8 * place) bytes) }
spelled_at zero place bytes lt = absurd (omega arith)
spelled_at (suc n) zero bytes lt = refl
spelled_at (suc n) (suc place) bytes lt =
    let moved : drop (8 * place) (drop 8 bytes) ≡ drop (8 * suc place) bytes =
    drop-drop (8 * place) 8 bytes ∙ ap (λ (i : ℕ). drop i bytes) (omega arith) in
    spelled_at n place (drop 8 bytes) (omega arith)
    ∙ ap (λ (t : List ℕ). record { 0 = from_le_bytes w64 t }) moved

-- behind the last one there is none
pub spelled_past : (n place : ℕ) (bytes : List ℕ) → n ≤ place →
    slice_index_or (spelled_masks n bytes) place clean_mask ≡ clean_mask
spelled_past zero place bytes le = refl
spelled_past (suc n) zero bytes le = absurd (omega arith)
spelled_past (suc n) (suc place) bytes le = spelled_past n place (drop 8 bytes) (omega arith)

-- a number of eight bytes is that of the bytes that these stand in front of
pub front_word : (bytes : List ℕ) → from_le_bytes w64 (take 8 bytes) ≡ from_le_bytes w64 bytes
front_word bytes =
    let at = λ (i : ℕ) (lt : i < 8). get_or-take 8 bytes i 0 lt in
    rw (
      at 0 (lit< tt),
      at 1 (lit< tt),
      at 2 (lit< tt),
      at 3 (lit< tt),
      at 4 (lit< tt),
      at 5 (lit< tt),
      at 6 (lit< tt),
      at 7 (lit< tt),
    ) refl
