-- The dirty lines of level one, as a list of lines by rising blocks has them.
use Rattle.std.proofs.Common.{◌≡◌, ℕ, ◌<◌, ◌==◌, Bool, true, false, cond, not, List, [], ◌∷◌, Some}
use Rattle.std.proofs.Common.{refl, sym, ap, subst, ◌∙◌, arith, eqb-true, ne_eqb, Ordering, Less, Equal, Greater}
use Rattle.std.proofs.lemmas.Bool.{eqb-false}
use Rattle.std.specs.Prelude.{unwrap_or}
use Rattle.std.specs.Map.{lookup}
use Rattle.std.specs.BTreeMap.{is_at}
use Rattle.std.specs.Ordering.{nat_cmp, match_ordering, is_eq}
use Rattle.std.specs.Cmp.{unsigned_tied, ranked, nat_cmp_is}
use Rattle.lf_rules.specs.Lines.{Lines, with_line, without_line, dirty_mask}
use Rattle.wave_traffic.specs.Flow.{make_dirty, make_clean}
use Rattle.wave_traffic.specs.Laws.{dirty_blocks}

-- ---- lines by rising blocks

abbrev pub Above : ℕ → List ℕ → Type 0
Above low [] = Unit {0}
Above low (k ∷ ks) = (low < k) × Above low ks

abbrev pub LinesAbove : ℕ → Lines → Type 0
LinesAbove low [] = Unit {0}
LinesAbove low (l ∷ lines) = (low < l.0) × LinesAbove low lines

abbrev pub Rising : Lines → Type 0
Rising [] = Unit {0}
Rising (l ∷ lines) = LinesAbove l.0 lines × Rising lines

lower : (lines : Lines) (a b : ℕ) → a < b → LinesAbove b lines → LinesAbove a lines
lower [] a b below h = tt
lower (l ∷ lines) a b below h = (omega (arith, below, h.0), lower lines a b below h.1)

put_above : (lines : Lines) (low b m : ℕ) → low < b → LinesAbove low lines → LinesAbove low (with_line lines b m)
put_above [] low b m below h = (below, tt)
put_above (l ∷ lines) low b m below h = go (nat_cmp b l.0) (put_above lines low b m below h.1)
  where
    go : (o : Ordering) → LinesAbove low (with_line lines b m) → LinesAbove low (match_ordering o
        ((b, m) ∷ l ∷ lines) ((l.0, m) ∷ lines) (l ∷ with_line lines b m))
    go Less more = (below, h)
    go Equal more = h
    go Greater more = (h.0, more)

pub put_rising : (lines : Lines) (b m : ℕ) → Rising lines → Rising (with_line lines b m)
put_rising [] b m h = (tt, tt)
put_rising (l ∷ lines) b m h = go (nat_cmp b l.0) refl (put_rising lines b m h.1)
  where
    go : (o : Ordering) → o ≡ nat_cmp b l.0 → Rising (with_line lines b m) → Rising (match_ordering o
        ((b, m) ∷ l ∷ lines) ((l.0, m) ∷ lines) (l ∷ with_line lines b m))
    go Less e more = let below = ranked b l.0 Less e in ((below, lower lines b l.0 below h.0), h)
    go Equal e more = h
    go Greater e more = (put_above lines l.0 b m (ranked b l.0 Greater e) h.0, more)

drop_above : (lines : Lines) (low b : ℕ) → LinesAbove low lines → LinesAbove low (without_line lines b)
drop_above [] low b h = tt
drop_above (l ∷ lines) low b h =
    elim (l.0 == b) as (λ c. LinesAbove low (cond (not c) (l ∷ without_line lines b) (without_line lines b))) [
      | true ↦ drop_above lines low b h.1
      | false ↦ (h.0, drop_above lines low b h.1)
    ]

pub drop_rising : (lines : Lines) (b : ℕ) → Rising lines → Rising (without_line lines b)
drop_rising [] b h = tt
drop_rising (l ∷ lines) b h =
    elim (l.0 == b) as (λ c. Rising (cond (not c) (l ∷ without_line lines b) (without_line lines b))) [
      | true ↦ drop_rising lines b h.1
      | false ↦ (drop_above lines l.0 b h.0, drop_rising lines b h.1)
    ]

dirty_above : (lines : Lines) (low : ℕ) → LinesAbove low lines → Above low (dirty_blocks lines)
dirty_above [] low h = tt
dirty_above (l ∷ lines) low h =
    elim (l.1 == 0) as (λ c. Above low (cond c (dirty_blocks lines) (l.0 ∷ dirty_blocks lines))) [
      | true ↦ dirty_above lines low h.1
      | false ↦ (h.0, dirty_above lines low h.1)
    ]

-- ---- sets by rising keys

make_dirty_front : (ks : List ℕ) (b : ℕ) → Above b ks → make_dirty ks b ≡ b ∷ ks
make_dirty_front [] b h = refl
make_dirty_front (k ∷ ks) b h = ap (λ o. match_ordering o (b ∷ k ∷ ks) (k ∷ ks) (k ∷ make_dirty ks b))
    (sym (nat_cmp_is b k Less h.0))

make_clean_absent : (ks : List ℕ) (b : ℕ) → Above b ks → make_clean ks b ≡ ks
make_clean_absent [] b h = refl
make_clean_absent (k ∷ ks) b h =
    ap (λ o. cond (is_eq o) ks (k ∷ make_clean ks b)) (sym (nat_cmp_is b k Less h.0))
    ∙ ap (λ (l : List ℕ). k ∷ l) (make_clean_absent ks b h.1)

make_dirty_first : (ks : List ℕ) (b : ℕ) → make_dirty (b ∷ ks) b ≡ b ∷ ks
make_dirty_first ks b =
    ap (λ o. match_ordering o (b ∷ b ∷ ks) (b ∷ ks) (b ∷ make_dirty ks b)) (sym (nat_cmp_is b b Equal refl))

make_clean_first : (ks : List ℕ) (b : ℕ) → make_clean (b ∷ ks) b ≡ ks
make_clean_first ks b = ap (λ o. cond (is_eq o) ks (b ∷ make_clean ks b)) (sym (nat_cmp_is b b Equal refl))

make_dirty_later : (ks : List ℕ) (k b : ℕ) → Greater ≡ nat_cmp b k → make_dirty (k ∷ ks) b ≡ k ∷ make_dirty ks b
make_dirty_later ks k b e = ap (λ o. match_ordering o (b ∷ k ∷ ks) (k ∷ ks) (k ∷ make_dirty ks b)) (sym e)

make_clean_later : (ks : List ℕ) (k b : ℕ) → (k == b) ≡ false → make_clean (k ∷ ks) b ≡ k ∷ make_clean ks b
make_clean_later ks k b other =
    let apart : is_eq (nat_cmp b k) ≡ false = unsigned_tied b k
    ∙ ne_eqb b k (λ same. eqb-false k b other (sym same)) in
    ap (λ c. cond c ks (k ∷ make_clean ks b)) apart

-- ---- a line gets a mask, or leaves

-- the set of dirty blocks once the block's line has the mask
abbrev pub with_mask : ℕ → List ℕ → ℕ → List ℕ
with_mask mask ks b = cond (mask == 0) (make_clean ks b) (make_dirty ks b)

pub put_dirty : (lines : Lines) (b m : ℕ) → Rising lines →
    dirty_blocks (with_line lines b m) ≡ with_mask m (dirty_blocks lines) b
put_dirty [] b m h = elim (m == 0) as (λ z. cond z [] (b ∷ []) ≡ cond z (make_clean [] b) (make_dirty [] b)) [
  | true ↦ refl
  | false ↦ refl
]
put_dirty (l ∷ lines) b m h = go (nat_cmp b l.0) refl (put_dirty lines b m h.1)
  where
    rest : List ℕ
    rest = dirty_blocks lines

    all : List ℕ
    all = dirty_blocks (l ∷ lines)

    above : Above l.0 rest
    above = dirty_above lines l.0 h.0

    in_place : (z d : Bool) → cond z rest (l.0 ∷ rest) ≡ cond z (make_clean (cond d rest (l.0 ∷ rest)) l.0)
        (make_dirty (cond d rest (l.0 ∷ rest)) l.0)
    in_place true true = sym (make_clean_absent rest l.0 above)
    in_place true false = sym (make_clean_first rest l.0)
    in_place false true = sym (make_dirty_front rest l.0 above)
    in_place false false = sym (make_dirty_first rest l.0)

    later : Greater ≡ nat_cmp b l.0 → (z d : Bool) →
        dirty_blocks (with_line lines b m) ≡ cond z (make_clean rest b) (make_dirty rest b)
        → cond d (dirty_blocks (with_line lines b m)) (l.0 ∷ dirty_blocks (with_line lines b m))
        ≡ cond z (make_clean (cond d rest (l.0 ∷ rest)) b) (make_dirty (cond d rest (l.0 ∷ rest)) b)
    later e z true same = same
    later e true false same =
        let less : l.0 < b = ranked b l.0 Greater e in
        ap (λ (ks : List ℕ). l.0 ∷ ks) same
        ∙ sym (make_clean_later rest l.0 b (ne_eqb l.0 b (λ is. omega (arith, is, less))))
    later e false false same = ap (λ (ks : List ℕ). l.0 ∷ ks) same ∙ sym (make_dirty_later rest l.0 b e)

    go : (o : Ordering) → o ≡ nat_cmp b l.0 → dirty_blocks (with_line lines b m) ≡ with_mask m rest b →
        dirty_blocks (match_ordering o ((b, m) ∷ l ∷ lines) ((l.0, m) ∷ lines) (l ∷ with_line lines b m))
        ≡ with_mask m all b
    go Less e more =
        let less : b < l.0 = ranked b l.0 Less e in
        let front : Above b all = dirty_above (l ∷ lines) b (less, lower lines b l.0 less h.0) in
        elim (m == 0) as (λ z. cond z all (b ∷ all) ≡ cond z (make_clean all b) (make_dirty all b)) [
          | true ↦ sym (make_clean_absent all b front)
          | false ↦ sym (make_dirty_front all b front)
        ]
    go Equal e more = subst (λ n. cond (m == 0) rest (l.0 ∷ rest) ≡ with_mask m all n) (sym (ranked b l.0 Equal e))
        (in_place (m == 0) (l.1 == 0))
    go Greater e more = later e (m == 0) (l.1 == 0) more

pub drop_dirty : (lines : Lines) (b : ℕ) → Rising lines →
    dirty_blocks (without_line lines b) ≡ make_clean (dirty_blocks lines) b
drop_dirty [] b h = refl
drop_dirty (l ∷ lines) b h = go (l.0 == b) refl (drop_dirty lines b h.1)
  where
    rest : List ℕ
    rest = dirty_blocks lines

    left : Lines
    left = without_line lines b

    gone : (l.0 == b) ≡ true → (d : Bool) → dirty_blocks left ≡ make_clean rest b →
        dirty_blocks left ≡ make_clean (cond d rest (l.0 ∷ rest)) b
    gone e true same = same
    gone e false same =
        let is : l.0 ≡ b = eqb-true l.0 b e in
        same ∙ make_clean_absent rest b (subst (λ n. Above n rest) is (dirty_above lines l.0 h.0))
        ∙ sym (subst (λ n. make_clean (n ∷ rest) b ≡ rest) (sym is) (make_clean_first rest b))

    stays : (l.0 == b) ≡ false → (d : Bool) → dirty_blocks left ≡ make_clean rest b →
        cond d (dirty_blocks left) (l.0 ∷ dirty_blocks left) ≡ make_clean (cond d rest (l.0 ∷ rest)) b
    stays e true same = same
    stays e false same = ap (λ (ks : List ℕ). l.0 ∷ ks) same ∙ sym (make_clean_later rest l.0 b e)

    go : (c : Bool) → (l.0 == b) ≡ c → dirty_blocks left ≡ make_clean rest b →
        dirty_blocks (cond (not c) (l ∷ left) left) ≡ make_clean (dirty_blocks (l ∷ lines)) b
    go true e same = gone e (l.1 == 0) same
    go false e same = stays e (l.1 == 0) same

-- ---- a line keeps its mask

absent : (lines : Lines) (b : ℕ) → LinesAbove b lines → dirty_mask lines b ≡ 0
absent [] b h = refl
absent (l ∷ lines) b h =
    ap (λ o. unwrap_or (cond (is_eq o) (Some l.1) (lookup (is_at (nat_cmp b)) lines)) 0)
    (sym (nat_cmp_is b l.0 Less h.0))
    ∙ absent lines b h.1

pub kept_dirty : (lines : Lines) (b : ℕ) → Rising lines →
    dirty_blocks (with_line lines b (dirty_mask lines b)) ≡ dirty_blocks lines
kept_dirty [] b h = refl
kept_dirty (l ∷ lines) b h = go (nat_cmp b l.0) refl (kept_dirty lines b h.1)
  where
    mask : Ordering → ℕ
    mask o = unwrap_or (cond (is_eq o) (Some l.1) (lookup (is_at (nat_cmp b)) lines)) 0

    go : (o : Ordering) → o ≡ nat_cmp b l.0 →
        dirty_blocks (with_line lines b (dirty_mask lines b)) ≡ dirty_blocks lines →
        dirty_blocks (match_ordering o ((b, mask o) ∷ l ∷ lines)
        ((l.0, mask o) ∷ lines) (l ∷ with_line lines b (mask o))) ≡ dirty_blocks (l ∷ lines)
    go Less e same =
        let less : b < l.0 = ranked b l.0 Less e in
        ap (λ m. dirty_blocks ((b, m) ∷ l ∷ lines)) (absent lines b (lower lines b l.0 less h.0))
    go Equal e same = refl
    go Greater e same = ap (λ (ks : List ℕ). cond (l.1 == 0) ks (l.0 ∷ ks)) same
