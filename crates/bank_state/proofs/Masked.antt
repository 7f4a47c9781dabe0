-- The bytes of a block under a mask, from the lowest on.
use Rattle.std.proofs.Common.{◌≡◌, ◌≢◌, ℕ, zero, suc, ◌+◌, ◌-◌, ◌/◌, ◌%◌, ◌^◌, ◌<◌, ◌≤◌, min, Bool, true, false, cond}
use Rattle.std.proofs.Common.{◌&&◌, ◌==◌, List, [], ◌∷◌, ◌++◌, Option, Some, None, map, length, drop, get_or, bit_and}
use Rattle.std.proofs.Common.{refl, ap, sym, ◌∙◌, arith, inl, inr, drop-cons, eq-eqb, ne_eqb, eqb-true}
use mathlib.Core.Path.{ap₂}
use Rattle.std.specs.Prelude.{IfSome, bytes_eq, nat_le, nat_lt, nat_eq}
use Rattle.std.specs.Option.{option_eq, option_map_or}
use Rattle.std.specs.List.{range_with_len, filter, flat_map}
use Rattle.std.specs.Int.{bit_at, trailing_zeros, w64}
use Rattle.std.proofs.lemmas.Bool.{cases_lt, eqb-false, lt-ltb, ltb-true, le-leb, and_parts, and_from}
use Rattle.std.proofs.lemmas.List.{append-nil}
use Rattle.std.proofs.Math.Seq.{drop-length}
use Rattle.std.proofs.lemmas.Nat.Bits.{bit_at_and, bit_at_lowest, bit_at-suc, bit_at-zero, bit_at-lt}
use Rattle.std.proofs.lemmas.Nat.Bits.{bit_at-trailing_zeros}
use Rattle.lf_rules.specs.declared.shape.Shape.{Shape}
use Rattle.lf_rules.specs.Address.{FlatMemory, Masks, block_bytes, is_under, mask_at, masked, sub_block}
use Rattle.lf_rules.proofs.Bytes.{masked_flat}
use Rattle.bank_state.specs.Bytes.{bytes_under, EndOf}

-- ---- the lowest bit goes

elsewhere : (i t n : ℕ) → i ≢ t → n ≡ cond (i == t) 0 n
elsewhere i t n apart = sym (ap (λ b. cond b 0 n) (ne_eqb i t apart))

-- a number and the one before it have the same bits above the lowest bit that is set
cleared : (t x : ℕ) → 0 < x → bit_at x t ≡ 1 → ((i : ℕ) → i < t → bit_at x i ≡ 0) → (i : ℕ)
    → bit_at (bit_and x (x - 1)) i ≡ cond (i == t) 0 (bit_at x i)
cleared zero x some here below zero =
    let one : x % 2 ≡ 1 = sym (bit_at_lowest x) ∙ here in
    let other : (x - 1) % 2 ≡ 0 = omega arith in
    let last : bit_at (x - 1) 0 ≡ 0 = bit_at_lowest (x - 1) ∙ other in
    let none : min (bit_at x 0) 0 ≡ 0 = omega arith in
    bit_at_and x (x - 1) 0 ∙ ap (min (bit_at x 0)) last ∙ none
cleared zero x some here below (suc i) =
    let one : x % 2 ≡ 1 = sym (bit_at_lowest x) ∙ here in
    let half : (x - 1) / 2 ≡ x / 2 = omega arith in
    let same : bit_at (x - 1) (suc i) ≡ bit_at x (suc i) =
    bit_at-suc (x - 1) i ∙ ap (λ n. bit_at n i) half ∙ sym (bit_at-suc x i) in
    let both : min (bit_at x (suc i)) (bit_at x (suc i)) ≡ bit_at x (suc i) = omega arith in
    bit_at_and x (x - 1) (suc i) ∙ ap (min (bit_at x (suc i))) same ∙ both
    ∙ elsewhere (suc i) 0 (bit_at x (suc i)) (λ e. absurd (omega arith))
cleared (suc t) x some here below zero =
    let none : bit_at x 0 ≡ 0 = below 0 (omega arith) in
    let low : min (bit_at x 0) (bit_at (x - 1) 0) ≡ bit_at x 0 = omega (arith, none) in
    bit_at_and x (x - 1) 0 ∙ low ∙ elsewhere 0 (suc t) (bit_at x 0) (λ e. absurd (omega arith))
cleared (suc t) x some here below (suc i) =
    let even : x % 2 ≡ 0 = sym (bit_at_lowest x) ∙ below 0 (omega arith) in
    let half : (x - 1) / 2 ≡ x / 2 - 1 = omega arith in
    bit_at_and x (x - 1) (suc i)
    ∙ ap₂ min (bit_at-suc x i) (bit_at-suc (x - 1) i ∙ ap (λ n. bit_at n i) half)
    ∙ sym (bit_at_and (x / 2) (x / 2 - 1) i)
    ∙ cleared t (x / 2) (omega arith) (sym (bit_at-suc x t) ∙ here)
    (λ j lt. sym (bit_at-suc x j) ∙ below (suc j) (omega arith)) i
    ∙ ap₂ (λ b n. cond b 0 n) (same_test (i == t) refl) (sym (bit_at-suc x i))
  where
    same_test : (b : Bool) → (i == t) ≡ b → (i == t) ≡ (suc i == suc t)
    same_test true e = e ∙ sym (eq-eqb (suc i) (suc t) (ap (λ n. suc n) (eqb-true i t e)))
    same_test false e = e ∙ sym (ne_eqb (suc i) (suc t) (λ same. eqb-false i t e (omega arith)))

filter_same : (p q : ℕ → Bool) (a n : ℕ) → ((i : ℕ) → a ≤ i → i < a + n → p i ≡ q i) →
    filter p (range_with_len a n) ≡ filter q (range_with_len a n)
filter_same p q a zero same = refl
filter_same p q a (suc n) same = ap₂ (λ b (xs : List ℕ). cond b (a ∷ xs) xs) (same a (omega arith) (omega arith))
    (filter_same p q (a + 1) n (λ i low high. same i (omega arith) (omega arith)))

-- the first number that passes, and the numbers after it
first_passing : (p q : ℕ → Bool) (a n t : ℕ) → a ≤ t → t < a + n → p t ≡ true → ((i : ℕ) → i < t → p i ≡ false)
    → ((i : ℕ) → q i ≡ cond (i == t) false (p i)) → filter p (range_with_len a n) ≡ t ∷ filter q (range_with_len a n)
first_passing p q a zero t low high here below rest = absurd (omega arith)
first_passing p q a (suc n) t low high here below rest = elim (cases_lt a t) [
  | inl lt ↦
      let off : p a ≡ false = below a lt in
      let off' : q a ≡ false = rest a ∙ ap (λ b. cond (a == t) false b) off ∙ either (a == t) in
      ap (λ b. cond b (a ∷ filter p (range_with_len (a + 1) n)) (filter p (range_with_len (a + 1) n))) off
      ∙ first_passing p q (a + 1) n t (omega arith) (omega arith) here below rest
      ∙ ap (λ (xs : List ℕ). t ∷ xs)
      (sym (ap (λ b. cond b (a ∷ filter q (range_with_len (a + 1) n)) (filter q (range_with_len (a + 1) n))) off'))
  | inr le ↦
      let at : a ≡ t = omega arith in
      let off : q a ≡ false = rest a ∙ ap (λ b. cond b false (p a)) (eq-eqb a t at) in
      ap (λ b. cond b (a ∷ filter p (range_with_len (a + 1) n)) (filter p (range_with_len (a + 1) n)))
      (ap p at ∙ here)
      ∙ ap₂ (λ k (xs : List ℕ). k ∷ xs) at
      (filter_same p q (a + 1) n (λ i from to. sym (rest i
      ∙ ap (λ b. cond b false (p i)) (ne_eqb i t (λ same. absurd (omega arith)))))
      ∙ sym (ap (λ b. cond b (a ∷ filter q (range_with_len (a + 1) n)) (filter q (range_with_len (a + 1) n))) off))
]
  where
    either : (b : Bool) → cond b false false ≡ false
    either true = refl
    either false = refl

abbrev pub IsBelow : ℕ → ℕ → Type 0
IsBelow mask size = (i : ℕ) → is_under mask i ≡ true → i < size

-- the byte under the lowest bit comes first
pub lowest_first : (f : ℕ → ℕ) (size mask : ℕ) → mask ≢ 0 → mask < 2 ^ 64 → IsBelow mask size
    → bytes_under f size mask ≡ f (trailing_zeros w64 mask) ∷ bytes_under f size (bit_and mask (mask - 1))
lowest_first f size mask some fits below =
    let fewer = λ (i : ℕ). ap (λ b. b == 1) (cleared t mask (omega arith) at.1 at.2 i) ∙ over (i == t) (bit_at mask i)
    in
    ap (map f) (first_passing (is_under mask) (is_under (bit_and mask (mask - 1))) 0 size t (omega arith)
    (omega (arith, below t one)) one (λ i lt. ap (λ b. b == 1) (at.2 i lt)) fewer)
  where
    t : ℕ
    t = trailing_zeros w64 mask

    at : (t < 64) × (bit_at mask t ≡ 1) × ((i : ℕ) → i < t → bit_at mask i ≡ 0)
    at = bit_at-trailing_zeros w64 mask (omega arith) fits

    one : is_under mask t ≡ true
    one = ap (λ b. b == 1) at.1

    over : (b : Bool) (n : ℕ) → (cond b 0 n == 1) ≡ cond b false (n == 1)
    over true n = refl
    over false n = refl

pub below_rest : (rest size : ℕ) → IsBelow rest size → IsBelow (bit_and rest (rest - 1)) size
below_rest rest size below i under =
    let both : min (bit_at rest i) (bit_at (rest - 1) i) ≡ 1 =
    sym (bit_at_and rest (rest - 1) i) ∙ eqb-true (bit_at (bit_and rest (rest - 1)) i) 1 under in
    below i (eq-eqb (bit_at rest i) 1 (omega (arith, bit_at-lt rest i)))

-- no bit is left
pub none_left : (f : ℕ → ℕ) (size mask : ℕ) → mask ≡ 0 → bytes_under f size mask ≡ []
none_left f size mask none = ap (bytes_under f size) none ∙ ap (map f) (go 0 size)
  where
    go : (a n : ℕ) → filter (is_under 0) (range_with_len a n) ≡ []
    go a zero = refl
    go a (suc n) = ap (λ k. cond (k == 1) (a ∷ filter (is_under 0) (range_with_len (a + 1) n))
        (filter (is_under 0) (range_with_len (a + 1) n))) (bit_at-zero a) ∙ go (a + 1) n

-- ---- the bits of the first so many bytes

module _ (mask ones size : ℕ) (bits : (i : ℕ) → is_under ones i ≡ (nat_le 0 i && nat_lt i (0 + size))) where
  pub first_below : IsBelow (bit_and mask ones) size
  first_below i under =
      let both : min (bit_at mask i) (bit_at ones i) ≡ 1 =
      sym (bit_at_and mask ones i) ∙ eqb-true (bit_at (bit_and mask ones) i) 1 under in
      let one : bit_at ones i ≡ 1 = omega (arith, bit_at-lt ones i) in
      let inside : i < 0 + size =
      ltb-true i (0 + size) (and_parts (nat_le 0 i) (nat_lt i (0 + size)) (sym (bits i)
      ∙ eq-eqb (bit_at ones i) 1 one)).1 in
      omega (arith, inside)

  pub first_same : (f : ℕ → ℕ) → bytes_under f size mask ≡ bytes_under f size (bit_and mask ones)
  first_same f = ap (map f) (filter_same (is_under mask) (is_under (bit_and mask ones)) 0 size
      (λ i low high. ap (λ n. n == 1) (same i low high)))
    where
      same : (i : ℕ) → 0 ≤ i → i < 0 + size → bit_at mask i ≡ bit_at (bit_and mask ones) i
      same i low high =
          let one : bit_at ones i ≡ 1 =
          eqb-true (bit_at ones i) 1 (bits i ∙ and_from (nat_le 0 i) (nat_lt i (0 + size)) (le-leb 0 i low)
          (lt-ltb i (0 + size) high)) in
          let all : bit_at mask i ≡ min (bit_at mask i) (bit_at ones i) = omega (arith, bit_at-lt mask i) in
          all ∙ sym (bit_at_and mask ones i)

-- ---- the bytes of a list from a place on

module _ (f : ℕ → ℕ) (size rest : ℕ) (some : rest ≢ 0) (fits : rest < 2 ^ 64) (below : IsBelow rest size)
    (bytes : List ℕ) (at : ℕ) (more : List ℕ) where
  -- the last of these has one byte fewer
  pub next_end : at < length bytes → get_or bytes at 0 ≡ f (trailing_zeros w64 rest)
      → bytes_eq (drop at bytes) (bytes_under f size rest ++ more)
      ≡ bytes_eq (drop (at + 1) bytes) (bytes_under f size (bit_and rest (rest - 1)) ++ more)
  next_end lt same =
      let one : suc at ≡ at + 1 = omega arith in
      ap₂ (λ (xs ys : List ℕ). bytes_eq xs (ys ++ more)) (drop-cons bytes at 0 lt) (lowest_first f size rest some fits
      below)
      ∙ ap (λ b. b && bytes_eq (drop (suc at) bytes) (bytes_under f size (bit_and rest (rest - 1)) ++ more))
      (eq-eqb (get_or bytes at 0) (f (trailing_zeros w64 rest)) same)
      ∙ ap (λ n. bytes_eq (drop n bytes) (bytes_under f size (bit_and rest (rest - 1)) ++ more)) one

  pub other_byte : at < length bytes → get_or bytes at 0 ≢ f (trailing_zeros w64 rest)
      → bytes_eq (drop at bytes) (bytes_under f size rest ++ more) ≡ false
  other_byte lt differs =
      ap₂ (λ (xs ys : List ℕ). bytes_eq xs (ys ++ more)) (drop-cons bytes at 0 lt) (lowest_first f size rest some fits
      below)
      ∙ ap (λ b. b && bytes_eq (drop (suc at) bytes) (bytes_under f size (bit_and rest (rest - 1)) ++ more))
      (ne_eqb (get_or bytes at 0) (f (trailing_zeros w64 rest)) differs)

  pub no_byte : at ≡ length bytes → bytes_eq (drop at bytes) (bytes_under f size rest ++ more) ≡ false
  no_byte end =
      ap₂ (λ (xs ys : List ℕ). bytes_eq xs (ys ++ more)) (ap (λ n. drop n bytes) end ∙ drop-length bytes)
      (lowest_first f size rest some fits below)

-- ---- the place at which bytes end

-- a place is the end where no byte follows
pub at_end : (bytes : List ℕ) (at : ℕ) → at ≤ length bytes → (at == length bytes) ≡ bytes_eq (drop at bytes) []
at_end bytes at within = elim (cases_lt at (length bytes)) [
  | inl lt ↦ ne_eqb at (length bytes) (λ e. absurd (omega (arith, lt, e)))
      ∙ sym (ap (λ (xs : List ℕ). bytes_eq xs []) (drop-cons bytes at 0 lt))
  | inr le ↦
      let end : at ≡ length bytes = omega (arith, within, le) in
      eq-eqb at (length bytes) end
      ∙ sym (ap (λ (xs : List ℕ). bytes_eq xs []) (ap (λ n. drop n bytes) end ∙ drop-length bytes))
]

-- the bytes are the list where they end with it
pub all_of_list : (xs bytes list : List ℕ) (end : Option ℕ) (n : ℕ) (r : Bool) → EndOf xs bytes 0 end →
    IfSome end (λ at. at ≤ length bytes) → bytes ≡ list → n ≡ length list → r ≡ option_eq nat_eq end (Some n)
    → r ≡ bytes_eq list xs
all_of_list xs bytes list end n r value within same long is =
    is ∙ go end within ∙ sym (value []) ∙ ap₂ bytes_eq same (append-nil xs)
  where
    go : (end : Option ℕ) → IfSome end (λ at. at ≤ length bytes) → option_eq nat_eq end (Some n)
        ≡ option_map_or (λ at. bytes_eq (drop at bytes) []) end false
    go None within = refl
    go (Some at) within = ap (λ k. at == k) (long ∙ ap length (sym same)) ∙ at_end bytes at within

-- ---- the parts of a second-level block

abbrev pub part_masked : Shape → FlatMemory → ℕ → Masks → ℕ → List ℕ
part_masked shape memory second masks place =
    masked (block_bytes shape memory (sub_block shape second place)) (mask_at masks place)

-- one part more is gone over
pub part_ends : (shape : Shape) (memory : FlatMemory) (second : ℕ) (masks : Masks) (bytes list : List ℕ)
    (block mask place from : ℕ) (end : Option ℕ) → EndOf (bytes_under (memory block) shape.block mask) bytes from end
    → bytes ≡ list → block ≡ sub_block shape second place → mask ≡ mask_at masks place → place < shape.factor
    → bytes_eq (drop from list)
    (flat_map (part_masked shape memory second masks) (range_with_len place (shape.factor - place)))
    ≡ option_map_or (λ at. bytes_eq (drop at list)
    (flat_map (part_masked shape memory second masks) (range_with_len (place + 1) (shape.factor - (place + 1))))) end
    false
part_ends shape memory second masks bytes list block mask place from end value same here under lt =
    let more : List ℕ = flat_map part (range_with_len (place + 1) (shape.factor - (place + 1))) in
    let count : shape.factor - place ≡ suc (shape.factor - (place + 1)) = omega arith in
    let first : part place ≡ bytes_under (memory block) shape.block mask =
    sym (masked_flat (memory block) mask shape.block
    ∙ ap₂ (λ b m. masked (block_bytes shape memory b) m) here under) in
    ap (λ n. bytes_eq (drop from list) (flat_map part (range_with_len place n))) count
    ∙ ap₂ (λ (zs xs : List ℕ). bytes_eq (drop from zs) (xs ++ more)) (sym same) first ∙ value more
    ∙ ap (λ (zs : List ℕ). option_map_or (λ at. bytes_eq (drop at zs) more) end false) same
  where
    part : ℕ → List ℕ
    part = part_masked shape memory second masks
