-- Bytes under masks.
use Rattle.std.proofs.Common.{◌≡◌, ℕ, zero, suc, ◌+◌, ◌-◌, ◌^◌, ◌<◌, ◌≤◌, max, Bool, true, false, cond, ◌&&◌, List}
use Rattle.std.proofs.Common.{[], ◌∷◌, inl, inr, refl, sym, ap, ◌∙◌, eqb-true, eq-eqb, arith, ltb-true, leb-true}
use Rattle.std.specs.Prelude.{bit_or, slice_index, nat_le, nat_lt}
use Rattle.std.specs.Int.{bit_at}
use Rattle.std.specs.List.{range_with_len, list_all, fold}
use Rattle.std.proofs.lemmas.Bool.{eqb-false, and_parts, both_ways, cond-true, cases_eq}
use Rattle.std.proofs.Math.Pow.{pow_pos}
use Rattle.std.proofs.lemmas.Nat.Bits.{bit_at_or, bit_at-lt, bit_at_cat_high, bit_at_ones}
use Rattle.lf_rules.specs.Address.{mask_of, is_under}
use Rattle.lf_rules.specs.Registers.{Held}
use Rattle.lf_rules.specs.State.{Request, Missed}
use Rattle.lf_rules.specs.Table.{is_store, covers, written, store_mask}
use Rattle.lf_rules.specs.Copies.{serve}

pub under_or : (a b o : ℕ) → is_under (bit_or a b) o ≡ false → (is_under a o ≡ false) × (is_under b o ≡ false)
under_or a b o e =
    let whole : bit_at (bit_or a b) o ≡ 1 → ⊥ = eqb-false (bit_at (bit_or a b) o) 1 e in
    let joined : bit_at (bit_or a b) o ≡ max (bit_at a o) (bit_at b o) = bit_at_or a b o in
    let la : bit_at a o < 2 = bit_at-lt a o in
    let lb : bit_at b o < 2 = bit_at-lt b o in (
      clear a (λ one. whole (omega (arith, joined, one, la, lb))),
      clear b
          (λ one. whole (omega (arith, joined, one, la, lb))),
    )
  where
    clear : (n : ℕ) → (bit_at n o ≡ 1 → ⊥) → is_under n o ≡ false
    clear n f = elim (is_under n o) as (λ t. is_under n o ≡ t → t ≡ false)
        [ true ↦ λ u. absurd (f (eqb-true (bit_at n o) 1 u)) | false ↦ λ u. refl ] refl

under_mask : (k s i : ℕ) → k ≤ i → i < k + s → is_under (mask_of k s) i ≡ true
under_mask k s i le lt =
    eq-eqb (bit_at (mask_of k s) i) 1
    (ap (λ n. bit_at n i) (sym_zero (mask_of k s)) ∙ bit_at_cat_high (2 ^ s - 1) k 0 i (positive k) le
    ∙ bit_at_ones s (i - k) (omega arith))
  where
    sym_zero : (n : ℕ) → n ≡ n + 0
    sym_zero n = omega arith

    positive : (n : ℕ) → 0 < 2 ^ n
    positive n = pow_pos n

-- a request writes no byte off its mask
pub written_off : (q : Request) (bytes : ℕ → ℕ) (o : ℕ) → is_under (store_mask q) o ≡ false →
    written q bytes o ≡ bytes o
written_off q bytes o off = go (is_store q) refl (covers q o) refl
  where
    go : (s : Bool) → is_store q ≡ s → (c : Bool) → covers q o ≡ c →
        cond (s && c) (slice_index q.bytes (o - q.offset)) (bytes o) ≡ bytes o
    go true e true f =
        let parts = and_parts (nat_le q.offset o) (nat_lt o (q.offset + q.size)) f in
        let under : is_under (mask_of q.offset q.size) o ≡ true =
        under_mask q.offset q.size o (leb-true q.offset o parts.0) (ltb-true o (q.offset + q.size) parts.1) in
        absurd (both_ways (is_under (mask_of q.offset q.size) o)
        (sym (ap (λ m. is_under m o) (cond-true (is_store q) (mask_of q.offset q.size) 0 e)) ∙ off) under)
    go true e false f = refl
    go false e c f = refl

pub serve_off : (held : List (Held Missed)) (mask : ℕ) (bytes : ℕ → ℕ) (o : ℕ) →
    is_under (fold (λ mask h. bit_or mask (store_mask h.target.request)) mask held) o ≡ false
    → (is_under mask o ≡ false) × (serve held bytes o ≡ bytes o)
serve_off [] mask bytes o off = (off, refl)
serve_off (h ∷ held) mask bytes o off =
    let rest = serve_off held (bit_or mask (store_mask h.target.request)) (written h.target.request bytes) o off in
    let parts = under_or mask (store_mask h.target.request) o rest.0 in
    (parts.0, rest.1 ∙ written_off h.target.request bytes o parts.1)

pub all_range : (p : ℕ → Bool) (a n : ℕ) → ((i : ℕ) → a ≤ i → i < a + n → p i ≡ true) →
    list_all p (range_with_len a n) ≡ true
all_range p a zero h = refl
all_range p a (suc n) h = ap (λ b. b && list_all p (range_with_len (a + 1) n)) (h a (omega arith) (omega arith))
    ∙ all_range p (a + 1) n (λ i le lt. h i (omega arith) (omega arith))

pub not_all : (p : ℕ → Bool) (a n k : ℕ) → a ≤ k → k < a + n → false ≡ p k → false ≡ list_all p (range_with_len a n)
not_all p a zero k le lt e = absurd (omega (arith, le, lt))
not_all p a (suc n) k le lt e =
    (elim (cases_eq a k) [
      | inl same ↦ ap (λ b. b && list_all p (range_with_len (a + 1) n)) (e ∙ ap p (sym same))
      | inr apart ↦ both (p a) (not_all p (a + 1) n k (omega (arith, le, apart)) (omega (arith, lt)) e)
    ])
  where
    both : (b : Bool) {c : Bool} → false ≡ c → false ≡ (b && c)
    both true e = e
    both false e = refl
