-- Masks that stand beside each other, joined.
use Rattle.std.proofs.Common.{ℕ, zero, suc, ◌≡◌, ◌<◌, ◌≤◌, ◌+◌, List, [], ◌∷◌, length, ◌==◌, true, get_or, refl, ap}
use Rattle.std.proofs.Common.{sym, ◌∙◌, arith, length-set, get_or-set_same, get_or-set_other, ext_get_or}
use Rattle.std.specs.Prelude.{bit_or, slice_set}
use Rattle.std.specs.Int.Bits.{or_zero_r}
use Rattle.std.proofs.Math.Logic.{⊎_elim}
use Rattle.std.proofs.lemmas.Bool.{cases_eq}
use Rattle.lf_rules.specs.declared.mask.Mask.{Mask}
use Rattle.lf_rules.specs.Address.{clean_mask}
use Rattle.lf_levels.specs.LineTable.{joined, is_line2}

pub length-joined : (ms others : List Mask) → length (joined ms others) ≡ length ms
length-joined [] others = refl
length-joined (m ∷ ms) [] = refl
length-joined (m ∷ ms) (o ∷ others) = ap suc (length-joined ms others)

-- a mask for each block is still one for each
pub joined_keeps : (factor : ℕ) (ms others : List Mask) → is_line2 factor (record { items = ms }) ≡ true →
    is_line2 factor (record { items = joined ms others }) ≡ true
joined_keeps factor ms others e = ap (λ n. n == factor) (length-joined ms others) ∙ e

-- the masks of both at a place
abbrev pub both_at : List Mask → List Mask → ℕ → Mask
both_at ms others i = record { 0 = bit_or (get_or ms i clean_mask).0 (get_or others i clean_mask).0 }

joined_at : (ms others : List Mask) (i : ℕ) → i < length ms →
    get_or (joined ms others) i clean_mask ≡ both_at ms others i
joined_at [] others i lt = absurd (omega arith)
joined_at (m ∷ ms) [] zero lt = ap (λ n. record { 0 = n }) (sym (or_zero_r m.0))
joined_at (m ∷ ms) [] (suc i) lt = ap (λ n. record { 0 = n }) (sym (or_zero_r (get_or ms i clean_mask).0))
joined_at (m ∷ ms) (o ∷ others) zero lt = refl
joined_at (m ∷ ms) (o ∷ others) (suc i) lt = joined_at ms others i (omega arith)

-- Of so many of the first masks, each has gained the bytes of the other that stands beside it.
pub record IsJoinedTo (ms others now : List Mask) (i : ℕ) : Type 0 where
  pub same_length : length now ≡ length ms
  pub before : (k : ℕ) → k < i → get_or now k clean_mask ≡ both_at ms others k
  pub after : (k : ℕ) → i ≤ k → get_or now k clean_mask ≡ get_or ms k clean_mask

pub none_joined : (ms others : List Mask) → IsJoinedTo ms others ms 0
none_joined ms others = record { same_length = refl; before = λ k lt. absurd (omega arith); after = λ k le. refl }

pub joined_more : (ms others now : List Mask) (i : ℕ) (gained : Mask) → IsJoinedTo ms others now i → i < length ms →
    gained ≡ both_at ms others i → IsJoinedTo ms others (slice_set now i gained) (i + 1)
joined_more ms others now i gained is lt e = record {
  same_length = length-set now i gained ∙ is.same_length;
  before = λ k low. ⊎_elim
      (λ here. ap (λ n. get_or (slice_set now i gained) n clean_mask) here
      ∙ get_or-set_same now i gained clean_mask (omega (arith, is.same_length)) ∙ e
      ∙ ap (both_at ms others) (sym here))
      (λ ne. get_or-set_other now i k gained clean_mask ne ∙ is.before k (omega (arith, ne)))
      (cases_eq k i);
  after = λ k high. get_or-set_other now i k gained clean_mask (λ same. absurd (omega (arith, same)))
      ∙ is.after k (omega arith);
}

pub joined_all : (ms others now : List Mask) (i : ℕ) → IsJoinedTo ms others now i → length ms ≤ i →
    now ≡ joined ms others
joined_all ms others now i is all =
    ext_get_or clean_mask now (joined ms others) (is.same_length ∙ sym (length-joined ms others))
    (λ k lt. let inside : k < length ms = omega (arith, is.same_length) in
    is.before k (omega arith) ∙ sym (joined_at ms others k inside))
