-- An item that is put behind others stands there.
use Rattle.std.proofs.Common.{◌≡◌, ℕ, ◌+◌, ◌*◌, ◌-◌, ◌≤◌, List, ◌∷◌, ◌++◌, length, take, drop}
use Rattle.std.proofs.Common.{[], set, refl, sym, ap, ◌∙◌, subst, arith, append_assoc, slice_index, length-set}
use borrow.Rule.Slice.PartMut.{put_mid}
use Rattle.std.proofs.Math.Seq.{drop-append-add, take-add}
use Rattle.std.proofs.lemmas.List.{get_or-append-add, get_or_append_left, get_or_at, take_all, length-append}
use Rattle.std.proofs.lemmas.List.{length-drop, length-take, drop-append-le, take-append-le, take_at, take_more_set}
use Rattle.trace_early.specs.Kept.{IsAt, length_at}

stands_behind : (front : List ℕ) (low high : ℕ) (item : List ℕ) → length item ≡ low + 256 * high
    → IsAt (front ++ low ∷ high ∷ item) (length front) item
stands_behind front low high item long =
    let bytes = front ++ low ∷ high ∷ item in
    let first : slice_index bytes (length front) ≡ low = get_or_at front low (high ∷ item) 0 (length front) refl in
    let second : slice_index bytes (length front + 1) ≡ high = get_or-append-add front (low ∷ high ∷ item) 1 0 in
    let len : length_at bytes (length front) ≡ length item =
    (λ i. first i + 256 * second i) ∙ sym long in
    record {
      within = omega (arith, len, length-append front (low ∷ high ∷ item));
      same = ap (λ n. take n (drop (length front + 2) bytes)) len
          ∙ ap (take (length item)) (drop-append-add front (low ∷ high ∷ item) 2)
          ∙ take_all (length item) item (omega arith);
    }

-- what stands somewhere stands there before more bytes
stays : (bytes more : List ℕ) (start : ℕ) (item : List ℕ) → IsAt bytes start item → IsAt (bytes ++ more) start item
stays bytes more start item at =
    let first : slice_index (bytes ++ more) start ≡ slice_index bytes start =
    get_or_append_left bytes more 0 start (omega (arith, at.within)) in
    let second : slice_index (bytes ++ more) (start + 1) ≡ slice_index bytes (start + 1) =
    get_or_append_left bytes more 0 (start + 1) (omega (arith, at.within)) in
    let len : length_at (bytes ++ more) start ≡ length_at bytes start = λ i. first i + 256 * second i in
    record {
      within = omega (arith, len, length-append bytes more, at.within);
      same = ap (λ n. take n (drop (start + 2) (bytes ++ more))) len
          ∙ ap (take (length_at bytes start)) (drop-append-le (start + 2) bytes more (omega (arith, at.within)))
          ∙ take-append-le (length_at bytes start) (drop (start + 2) bytes) more
          (omega (arith, length-drop (start + 2) bytes, at.within))
          ∙ at.same;
    }

-- ---- an item is put behind what is in use

pub written : (bytes : List ℕ) (start low high k : ℕ) (item : List ℕ) → start + 2 + length item ≤ length bytes
    → take (start + 2 + length item)
    (put_mid (start + 2) k (set (set bytes start low) (start + 1) high) item) ≡ take start bytes ++ low ∷ high ∷ item
written bytes start low high k item room =
    let one = set bytes start low in
    let two = set one (start + 1) high in
    let rest = drop k (drop (start + 2) two) in
    let next : start + 2 ≡ start + 1 + 1 = omega arith in
    let front : take (start + 2) two ≡ take start bytes ++ low ∷ high ∷ [] =
    ap (λ n. take n two) next
    ∙ take_more_set one (start + 1) high (omega (arith, length-set bytes start low))
    ∙ ap (λ xs. xs ++ high ∷ []) (take_more_set bytes start low (omega arith))
    ∙ append_assoc (take start bytes) (low ∷ []) (high ∷ []) in
    let len : length (take (start + 2) two ++ item) ≡ start + 2 + length item = omega (
      arith,
      length-append (take (start + 2) two) item,
      length-take (start + 2) two,
      length-set one (start + 1) high,
      length-set bytes start low,
    ) in
    ap (take (start + 2 + length item)) (sym (append_assoc (take (start + 2) two) item rest))
    ∙ take_at (take (start + 2) two ++ item) rest (start + 2 + length item) len
    ∙ ap (λ xs. xs ++ item) front
    ∙ append_assoc (take start bytes) (low ∷ high ∷ []) item

module _ (old new : List ℕ) (used start low high : ℕ) (item : List ℕ) (behind : used ≤ start)
    (room : start ≤ length old) (long : length item ≡ low + 256 * high)
    (is : take (start + 2 + length item) new ≡ take start old ++ low ∷ high ∷ item) where
  stands_put : IsAt (take (start + 2 + length item) new) start item
  stands_put = subst (λ (all : List ℕ). IsAt all start item) (sym is)
      (subst (λ (from : ℕ). IsAt (take start old ++ low ∷ high ∷ item) from item)
      (omega (arith, length-take start old))
      (stands_behind (take start old) low high item long))

  parts : take start old ≡ take used old ++ take (start - used) (drop used old)
  parts =
      let whole : start ≡ used + (start - used) = omega arith in
      ap (λ n. take n old) whole ∙ take-add used (start - used) old

  stays_put : (from : ℕ) (other : List ℕ) → IsAt (take used old) from other
      → IsAt (take (start + 2 + length item) new) from other
  stays_put from other at = subst (λ (all : List ℕ). IsAt all from other)
      (sym (is ∙ ap (λ front. front ++ low ∷ high ∷ item) parts
      ∙ append_assoc (take used old) (take (start - used) (drop used old)) (low ∷ high ∷ item)))
      (stays (take used old) (take (start - used) (drop used old) ++ low ∷ high ∷ item) from other at)

-- the same of a vector of so many bytes whose slice was written: what is in use of it afterwards
module _ (count : ℕ) (old slice new : List ℕ) (used start low high : ℕ) (item : List ℕ) (value : slice ≡ old)
    (whole : count ≡ length old) (same : length new ≡ length slice) (behind : used ≤ start) (room : start ≤ length old)
    (long : length item ≡ low + 256 * high)
    (is : take (start + 2 + length item) new ≡ take start slice ++ low ∷ high ∷ item) where
  abbrev in_use : List ℕ → List ℕ
  in_use bytes = take (start + 2 + length item) bytes

  written_whole : take count (new ++ drop (length new) old) ≡ new
  written_whole = take_at new (drop (length new) old) count (omega (arith, same, ap length value))

  of_old : take (start + 2 + length item) new ≡ take start old ++ low ∷ high ∷ item
  of_old = is ∙ ap (λ (bytes : List ℕ). take start bytes ++ low ∷ high ∷ item) value

  pub stands_written : IsAt (in_use (take count (new ++ drop (length new) old))) start item
  stands_written = subst (λ (bytes : List ℕ). IsAt (in_use bytes) start item) (sym written_whole)
      (stands_put old new used start low high item behind room long of_old)

  pub stays_written : (from : ℕ) (other : List ℕ) → IsAt (take used old) from other
      → IsAt (in_use (take count (new ++ drop (length new) old))) from other
  stays_written from other at = subst (λ (bytes : List ℕ). IsAt (in_use bytes) from other) (sym written_whole)
      (stays_put old new used start low high item behind room long of_old from other at)
