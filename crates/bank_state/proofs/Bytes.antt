-- Bytes of a block, and blocks of a memory.
use Rattle.std.proofs.Common.{◌≡◌, ℕ, ◌+◌, ◌-◌, ◌<◌, ◌≤◌, Bool, true, false, cond, ◌&&◌, ◌==◌, List, [], ◌∷◌, ◌++◌}
use Rattle.std.proofs.Common.{Option, Some, replicate, zero, suc, subst, eq-eqb, ◌||◌}
use Rattle.std.proofs.Common.{get_or, take, drop, refl, ap, sym, ◌∙◌, ⊎_elim, length, arith, slice_index, map, leb, ltb}
use mathlib.Core.Path.{fun_ext}
use Rattle.std.specs.Prelude.{unwrap_or, nat_eq}
use Rattle.std.specs.Map.{lookup}
use Rattle.std.proofs.lemmas.List.{get_or-replicate, get_or_past, length-replicate, get_or_append_left, get_or-take}
use Rattle.std.proofs.lemmas.List.{get_or-append_right, get_or-drop, length-take, length-drop, length-append}
use Rattle.std.proofs.lemmas.Bool.{or_right, cases_lt, leb-true, leb-false, ltb-true, ltb-false}
use Rattle.std.proofs.lemmas.List.FromFn.{fill_by_all, map-range_with_len_more, length-map-range_with_len}
use Rattle.std.specs.List.{range_with_len, list_all}
use Rattle.std.specs.Int.{from_le_bytes, to_le_bytes, w64}
use Rattle.std.proofs.lemmas.Nat.{le_bytes_8}
use Rattle.std.proofs.Math.Seq.{take-append_seam}
use borrow.Rule.Slice.PartMut.{put_mid}
use Rattle.lf_rules.specs.declared.event.Op.TheVariants.{Load, Store}
use Rattle.lf_rules.specs.Address.{FlatMemory, is_under}
use Rattle.lf_rules.specs.State.{update, Request}
use Rattle.lf_rules.specs.Table.{value_of}
use Rattle.bank_state.specs.Bytes.{flat_of, put, IsNumberOf}

pub zeros : (n place : ℕ) → get_or (replicate {A = ℕ} n 0) place 0 ≡ 0
zeros n place = ⊎_elim (λ lt. get_or-replicate n place 0 0 lt)
    (λ le. get_or_past (replicate n 0) place 0 (omega (arith, length-replicate {A = ℕ} n 0))) (cases_lt place n)

-- a block's bytes, written at once
pub flat_put : (old new : List (ℕ × List ℕ)) (block : ℕ) (bytes : List ℕ)
    → ((q : ℕ) → lookup (nat_eq q) new ≡ cond (nat_eq block q) (Some bytes) (lookup (nat_eq q) old))
    → flat_of new ≡ update (flat_of old) block (slice_index bytes)
flat_put old new block bytes written = fun_ext (λ at.
    ap (λ (o : Option (List ℕ)). slice_index (unwrap_or o [])) (written at)
    ∙ split (block == at) (lookup (nat_eq at) old))
  where
    split : (b : Bool) (o : Option (List ℕ)) → slice_index (unwrap_or (cond b (Some bytes) o) [])
        ≡ cond b (slice_index bytes) (slice_index (unwrap_or o []))
    split true o = refl
    split false o = refl

pub put_mid_is : (xs new : List ℕ) (offset k : ℕ) → k ≡ length new → offset + length new ≤ length xs →
    slice_index (put_mid offset k xs new) ≡ put (slice_index xs) offset new
put_mid_is xs new offset k e fits = fun_ext (λ place. go place (leb offset place) (ltb place (offset + length new))
    refl refl)
  where
    front : length (take offset xs) ≡ offset
    front = omega (arith, length-take offset xs)

    go : (place : ℕ) (p q : Bool) → leb offset place ≡ p → ltb place (offset + length new) ≡ q
        → get_or (take offset xs ++ (new ++ drop k (drop offset xs))) place 0
        ≡ cond (p && q) (get_or new (place - offset) 0) (get_or xs place 0)
    go place false q low high =
        get_or_append_left (take offset xs) _ 0 place (omega (arith, front, leb-false offset place low))
        ∙ get_or-take offset xs place 0 (leb-false offset place low)
    go place true true low high =
        get_or-append_right (take offset xs) _ offset place 0 front (leb-true offset place low)
        ∙ get_or_append_left new _ 0 (place - offset) (omega
        (arith, leb-true offset place low, ltb-true place (offset + length new) high))
    go place true false low high =
        let le : offset + length new ≤ place = ltb-false place (offset + length new) high in
        get_or-append_right (take offset xs) _ offset place 0 front (leb-true offset place low)
        ∙ get_or-append_right new _ (length new) (place - offset) 0 refl (omega arith)
        ∙ get_or-drop k (drop offset xs) (place - offset - length new) 0
        ∙ get_or-drop offset xs (k + (place - offset - length new)) 0
        ∙ ap (λ n. get_or xs n 0) (omega (arith, e))

-- bytes from a place on, read
pub part_read : (xs : List ℕ) (offset size : ℕ) → offset + size ≤ length xs
    → take (offset + size - offset) (drop offset xs) ≡ map (λ i. slice_index xs (offset + i)) (range_with_len 0 size)
part_read xs offset size within =
    let count : offset + size - offset ≡ size = omega arith in
    ap (λ n. take n (drop offset xs)) count
    ∙ fill_by_all (λ i. slice_index xs (offset + i)) (take size (drop offset xs)) size 0
    (omega (arith, length-take size (drop offset xs), length-drop offset xs))
    (λ i lt. get_or-take size (drop offset xs) i 0 lt ∙ get_or-drop offset xs i 0)

-- fewer of eight bytes from a place on
pub part_of_eight : (xs : List ℕ) (offset size : ℕ) → offset + 8 ≤ length xs → size ≤ 8
    → take size (take (offset + 8 - offset) (drop offset xs)) ≡ map (λ i. slice_index xs (offset + i))
    (range_with_len 0 size)
part_of_eight xs offset size within small =
    fill_by_all (λ i. slice_index xs (offset + i)) (take size (take (offset + 8 - offset) (drop offset xs))) size 0
    (omega (
      arith,
      length-take size (take (offset + 8 - offset) (drop offset xs)),
      length-take (offset + 8 - offset) (drop offset xs),
      length-drop offset xs,
    ))
    (λ i lt. get_or-take size (take (offset + 8 - offset) (drop offset xs)) i 0 lt
    ∙ get_or-take (offset + 8 - offset) (drop offset xs) i 0 (omega (arith, lt, small)) ∙ get_or-drop offset xs i 0)

-- one more byte read
pub more_read : (f : ℕ → ℕ) {xs ys : List ℕ} {y : ℕ} (i : ℕ) → ys ≡ xs ++ y ∷ [] → xs ≡ map f (range_with_len 0 i) →
    y ≡ f i → ys ≡ map f (range_with_len 0 (i + 1))
more_read f {xs} {ys} {y} i pushed read is = pushed ∙ ap (λ (zs : List ℕ). zs ++ y ∷ []) read
    ∙ ap (λ z. map f (range_with_len 0 i) ++ z ∷ []) is ∙ sym (map-range_with_len_more f 0 i i (omega arith))

-- the value of a load, read
pub value_read : (memory : FlatMemory) (q : Request) (bytes : ℕ → ℕ) (xs : List ℕ) (offset size : ℕ) → Load ≡ q.op
    → xs ≡ map (λ i. bytes (offset + i)) (range_with_len 0 size) → offset ≡ q.offset → size ≡ q.size →
    bytes ≡ memory q.block → xs ≡ value_of memory q
value_read memory q bytes xs offset size load read at long here =
    read ∙ ap (λ n. map (λ i. bytes (n + i)) (range_with_len 0 size)) at
    ∙ ap (λ n. map (λ i. bytes (q.offset + i)) (range_with_len 0 n)) long
    ∙ ap (λ (f : ℕ → ℕ). map (λ i. f (q.offset + i)) (range_with_len 0 q.size)) here
    ∙ ap (λ op. cond (elim op [ Load ↦ false | Store ↦ true ]) []
    (map (λ i. memory q.block (q.offset + i)) (range_with_len 0 q.size))) load

-- bytes written over zeros
pub padded_is : (blank : ℕ → ℕ) (bytes : List ℕ) → ((place : ℕ) → blank place ≡ 0) →
    put blank 0 bytes ≡ slice_index bytes
padded_is blank bytes zero_there = fun_ext (λ place. go place (leb 0 place) (ltb place (0 + length bytes)) refl refl)
  where
    go : (place : ℕ) (p q : Bool) → leb 0 place ≡ p → ltb place (0 + length bytes) ≡ q →
        cond (p && q) (get_or bytes (place - 0) 0) (blank place) ≡ get_or bytes place 0
    go place false q low high = absurd (omega (arith, leb-false 0 place low))
    go place true true low high = let same : place - 0 ≡ place = omega arith in ap (λ n. get_or bytes n 0) same
    go place true false low high = zero_there place ∙ sym (get_or_past bytes place 0
        (omega (arith, ltb-false place (0 + length bytes) high)))

-- eight bytes that are read as one number are told by it
word_same : (xs ys : List ℕ) (m n : ℕ) → length xs ≡ 8 → length ys ≡ 8 → ((i : ℕ) → get_or xs i 0 < 256) →
    ((i : ℕ) → get_or ys i 0 < 256)
    → m ≡ from_le_bytes w64 xs → n ≡ from_le_bytes w64 ys → m ≡ n → xs ≡ ys
word_same xs ys m n long_xs long_ys fits_xs fits_ys is_xs is_ys same =
    sym (le_bytes_8 xs m long_xs fits_xs is_xs) ∙ ap (to_le_bytes w64) same ∙ le_bytes_8 ys n long_ys fits_ys is_ys

-- a test that all the first numbers pass is one of the rest
all_from : (p : ℕ → Bool) (a k n : ℕ) → ((i : ℕ) → a ≤ i → i < a + k → p i ≡ true) →
    list_all p (range_with_len (a + k) n) ≡ list_all p (range_with_len a (k + n))
all_from p a zero n pass =
    let start : a + 0 ≡ a = omega arith in
    let count : n ≡ 0 + n = omega arith in
    ap (λ b. list_all p (range_with_len b n)) start ∙ ap (λ m. list_all p (range_with_len a m)) count
all_from p a (suc k) n pass =
    let start : a + suc k ≡ a + 1 + k = omega arith in
    let count : suc k + n ≡ suc (k + n) = omega arith in
    ap (λ b. list_all p (range_with_len b n)) start ∙ all_from p (a + 1) k n
    (λ i low high. pass i (omega (arith, low)) (omega (arith, high)))
    ∙ sym (ap (λ b. b && list_all p (range_with_len (a + 1) (k + n))) (pass a (omega arith) (omega arith)))
    ∙ sym (ap (λ m. list_all p (range_with_len a m)) count)

-- eight bytes are the same where they are one number
words_same : (xs ys : List ℕ) (at m n : ℕ) → at + 8 ≤ length xs → at + 8 ≤ length ys →
    ((i : ℕ) → get_or xs i 0 < 256) → ((i : ℕ) → get_or ys i 0 < 256)
    → m ≡ from_le_bytes w64 (take (at + 8 - at) (drop at xs)) →
    n ≡ from_le_bytes w64 (take (at + 8 - at) (drop at ys)) → m ≡ n → (i : ℕ) → at ≤ i → i < at + 8 →
    slice_index xs i ≡ slice_index ys i
words_same xs ys at m n within_xs within_ys fits_xs fits_ys is_xs is_ys same i above below = here above
  where
    eight : at + 8 - at ≡ 8
    eight = omega arith

    part : List ℕ → List ℕ
    part zs = take (at + 8 - at) (drop at zs)

    long : (zs : List ℕ) → at + 8 ≤ length zs → length (part zs) ≡ 8
    long zs within = omega (arith, length-take (at + 8 - at) (drop at zs), length-drop at zs)

    read : (zs : List ℕ) (j : ℕ) → j < at + 8 - at → get_or (part zs) j 0 ≡ get_or zs (at + j) 0
    read zs j lt = get_or-take (at + 8 - at) (drop at zs) j 0 lt ∙ get_or-drop at zs j 0

    fits : (zs : List ℕ) → at + 8 ≤ length zs → ((j : ℕ) → get_or zs j 0 < 256) → (j : ℕ) → get_or (part zs) j 0 < 256
    fits zs within all j = ⊎_elim
        (λ lt. subst (λ k. k < 256) (sym (read zs j lt)) (all (at + j)))
        (λ le. subst (λ k. k < 256) (sym (get_or_past (part zs) j 0 (omega (arith, le, long zs within)))) (omega arith))
        (cases_lt j (at + 8 - at))

    parts : part xs ≡ part ys
    parts = word_same (part xs) (part ys) m n (long xs within_xs) (long ys within_ys) (fits xs within_xs fits_xs)
        (fits ys within_ys fits_ys) is_xs is_ys same

    here : at ≤ i → get_or xs i 0 ≡ get_or ys i 0
    here le =
        let lt : i - at < at + 8 - at = omega (arith, below, le) in
        let place : at + (i - at) ≡ i = omega (arith, le) in
        subst (λ k. get_or xs k 0 ≡ get_or ys k 0) place (sym (read xs (i - at) lt)
        ∙ ap (λ zs. get_or zs (i - at) 0) parts ∙ read ys (i - at) lt)

-- whether a byte agrees off a mask
abbrev pub agrees : List ℕ → List ℕ → ℕ → ℕ → Bool
agrees xs ys mask i = is_under mask i || slice_index xs i == slice_index ys i

-- a test of numbers is one of the first and one of the rest
all_split : (p : ℕ → Bool) (a k n : ℕ) → list_all p (range_with_len a (k + n))
    ≡ (list_all p (range_with_len a k) && list_all p (range_with_len (a + k) n))
all_split p a zero n =
    let start : a ≡ a + 0 = omega arith in
    let count : 0 + n ≡ n = omega arith in
    ap (λ m. list_all p (range_with_len a m)) count ∙ ap (λ b. list_all p (range_with_len b n)) start
all_split p a (suc k) n =
    let start : a + 1 + k ≡ a + suc k = omega arith in
    let count : suc k + n ≡ suc (k + n) = omega arith in
    ap (λ m. list_all p (range_with_len a m)) count
    ∙ ap (λ b. p a && b) (all_split p (a + 1) k n)
    ∙ assoc (p a) (list_all p (range_with_len (a + 1) k)) (list_all p (range_with_len (a + 1 + k) n))
    ∙ ap (λ b. (p a && list_all p (range_with_len (a + 1) k)) && list_all p (range_with_len b n)) start
  where
    assoc : (x y z : Bool) → (x && (y && z)) ≡ ((x && y) && z)
    assoc true y z = refl
    assoc false y z = refl

module _ (xs ys : List ℕ) (mask at : ℕ) (within : at + 8 ≤ length xs) where
  abbrev pub all : ℕ → ℕ → Bool
  all a n = list_all (agrees xs ys mask) (range_with_len a n)

  -- the bytes from a place on are eight and those after them
  next : all at (length xs - at) ≡ (all at (at + 8 - at) && all (at + 8) (length xs - (at + 8)))
  next =
      let eight : at + 8 - at ≡ 8 = omega arith in
      let count : length xs - at ≡ 8 + (length xs - (at + 8)) = omega (arith, within) in
      ap (all at) count ∙ all_split (agrees xs ys mask) at 8 (length xs - (at + 8))
      ∙ ap (λ n. all at n && all (at + 8) (length xs - (at + 8))) (sym eight)

  pub agree_past : all at (at + 8 - at) ≡ true → (b : Bool) → all at (length xs - at) ≡ b →
      all (at + 8) (length xs - (at + 8)) ≡ b
  agree_past pass b whole = sym (ap (λ c. c && all (at + 8) (length xs - (at + 8))) pass) ∙ sym next ∙ whole

  pub differ_here : all at (at + 8 - at) ≡ false → (b : Bool) → all at (length xs - at) ≡ b → false ≡ b
  differ_here fail b whole = sym (ap (λ c. c && all (at + 8) (length xs - (at + 8))) fail) ∙ sym next ∙ whole

  pub agree_word : (m n : ℕ) → at + 8 ≤ length ys → ((i : ℕ) → get_or xs i 0 < 256) →
      ((i : ℕ) → get_or ys i 0 < 256) → m ≡ from_le_bytes w64 (take (at + 8 - at) (drop at xs))
      → n ≡ from_le_bytes w64 (take (at + 8 - at) (drop at ys)) → m ≡ n → all at (at + 8 - at) ≡ true
  agree_word m n within_ys fits_xs fits_ys is_xs is_ys same =
      let eight : at + 8 - at ≡ 8 + 0 = omega arith in
      ap (all at) eight ∙ sym (all_from (agrees xs ys mask) at 8 0 (λ i low high.
      or_right (is_under mask i) (slice_index xs i == slice_index ys i)
      (eq-eqb (slice_index xs i) (slice_index ys i)
      (words_same xs ys at m n within within_ys fits_xs fits_ys is_xs is_ys same i low high))))

-- ---- a value as a number

-- the zeros behind the bytes of a number of eight
abbrev pub padding : List ℕ → List ℕ
padding bytes = drop (length bytes) (replicate 8 0)

padded_long : (bytes : List ℕ) → length bytes ≤ 8 → length (bytes ++ padding bytes) ≡ 8
padded_long bytes short = omega (
  arith,
  length-append bytes (padding bytes),
  length-drop (length bytes)
      (replicate {A = ℕ} 8 0),
)

padded_low : (bytes : List ℕ) → ((i : ℕ) → get_or bytes i 0 < 256) → (i : ℕ) → get_or (bytes ++ padding bytes) i 0 < 256
padded_low bytes low i = ⊎_elim
    (λ lt. omega (arith, get_or_append_left bytes (padding bytes) 0 i lt, low i))
    (λ le. omega (
      arith,
      get_or-append_right bytes (padding bytes) (length bytes) i 0 refl le
          ∙ get_or-drop (length bytes) (replicate {A = ℕ} 8 0) (i - length bytes) 0
          ∙ zeros 8 (length bytes + (i - length bytes)),
    ))
    (cases_lt i (length bytes))

-- the bytes, and zeros behind them, are those of the number
pub number_told : (bytes : List ℕ) (n : ℕ) → length bytes ≤ 8 → ((i : ℕ) → get_or bytes i 0 < 256) →
    n ≡ from_le_bytes w64 (bytes ++ padding bytes) → IsNumberOf bytes n
number_told bytes n short low number =
    ap (take (length bytes)) (le_bytes_8 (bytes ++ padding bytes) n (padded_long bytes short) (padded_low bytes low)
    number)
    ∙ take-append_seam bytes (padding bytes)

part_low : (xs : List ℕ) (offset n : ℕ) → ((j : ℕ) → get_or xs j 0 < 256) → (i : ℕ) →
    get_or (take n (drop offset xs)) i 0 < 256
part_low xs offset n low i = ⊎_elim
    (λ lt. omega (arith, get_or-take n (drop offset xs) i 0 lt ∙ get_or-drop offset xs i 0, low (offset + i)))
    (λ le. omega (
      arith,
      get_or_past (take n (drop offset xs)) i 0 (omega
          (arith, le, length-take n (drop offset xs))),
    ))
    (cases_lt i n)

-- a number read from eight bytes has the first of them
pub number_read : (xs : List ℕ) (offset size n : ℕ) → offset + 8 ≤ length xs → size ≤ 8 →
    ((j : ℕ) → get_or xs j 0 < 256) → n ≡ from_le_bytes w64 (take (offset + 8 - offset) (drop offset xs))
    → take size (to_le_bytes w64 n) ≡ map (λ i. slice_index xs (offset + i)) (range_with_len 0 size)
number_read xs offset size n within small low number =
    let eight : List ℕ = take (offset + 8 - offset) (drop offset xs) in
    let long : length eight ≡ 8 =
    omega (arith, length-take (offset + 8 - offset) (drop offset xs), length-drop offset xs) in
    ap (take size) (le_bytes_8 eight n long (part_low xs offset (offset + 8 - offset) low) number)
    ∙ part_of_eight xs offset size within small

-- the same of fewer bytes, and zeros behind them
pub padded_read : (xs : List ℕ) (offset size n : ℕ) → offset + size ≤ length xs → size ≤ 8 →
    ((j : ℕ) → get_or xs j 0 < 256)
    → n ≡ from_le_bytes w64 (take (offset + size - offset) (drop offset xs) ++ drop size (replicate 8 0))
    → take size (to_le_bytes w64 n) ≡ map (λ i. slice_index xs (offset + i)) (range_with_len 0 size)
padded_read xs offset size n within small low number =
    let bytes : List ℕ = take (offset + size - offset) (drop offset xs) in
    let long : size ≡ length bytes =
    omega (arith, length-take (offset + size - offset) (drop offset xs), length-drop offset xs) in
    ap (λ k. take k (to_le_bytes w64 n)) long
    ∙ number_told bytes n (omega (arith, long, small)) (part_low xs offset (offset + size - offset) low)
    (number ∙ ap (λ k. from_le_bytes w64 (bytes ++ drop k (replicate 8 0))) long)
    ∙ part_read xs offset size within

-- a load's value, as a number
pub load_number : (memory : FlatMemory) (q : Request) (bytes : ℕ → ℕ) (offset size n : ℕ) → Load ≡ q.op
    → take size (to_le_bytes w64 n) ≡ map (λ i. bytes (offset + i)) (range_with_len 0 size)
    → offset ≡ q.offset → size ≡ q.size → bytes ≡ memory q.block → IsNumberOf (value_of memory q) n
load_number memory q bytes offset size n load read at long here =
    let part : List ℕ = map (λ i. bytes (offset + i)) (range_with_len 0 size) in
    let P : List ℕ → Type 0 = λ xs. IsNumberOf xs n in
    subst P (value_read memory q bytes part offset size load refl at long here)
    (ap (λ k. take k (to_le_bytes w64 n)) (length-map-range_with_len (λ i. bytes (offset + i)) 0 size) ∙ read)
