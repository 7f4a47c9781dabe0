-- The blocks of a second-level block that comes into level two: those that the targets ask for are supplied, and none
-- is dirty.
use Rattle.std.proofs.Common.{◌≡◌, ℕ, zero, suc, ◌+◌, ◌*◌, ◌/◌, ◌-◌, ◌<◌, ◌≤◌, ◌==◌, Bool, true, false, cond}
use Rattle.std.proofs.Common.{List, [], ◌∷◌, get_or, drop, map, length, refl, ap, sym, ◌∙◌, arith, eqb-true}
use Rattle.std.proofs.Common.{eq-eqb}
use mathlib.Core.Path.{ap₂, fun_ext}
use Rattle.std.specs.List.{AllByRecursion}
use Rattle.std.proofs.lemmas.Nat.{div-mul-add, div-add-mod'}
use Rattle.lf_rules.specs.declared.shape.Shape.{Shape}
use Rattle.lf_rules.specs.Address.{second_of, place_of, sub_block}
use Rattle.lf_rules.specs.Registers.{Held, targets_of}
use Rattle.lf_rules.specs.State.{update, Asked}
use Rattle.lf_rules.specs.Table.{block_asked}
use Rattle.lf_rules.proofs.Wide.{sub_of_block}
use Rattle.lf_mshr.specs.declared.level_two.Request2.{Request2}
use Rattle.lf_mshr.specs.Alike.{AreAlike}
use Rattle.lf_mshr.specs.RegisterFile.{released_pair}
use Rattle.lf_mshr.proofs.Alike.{targets_of-alike}
use Rattle.bank_cells.specs.declared.known.Fetch.TheVariants as fetch
use Rattle.bank_cells.specs.declared.known.First.{First}
use Rattle.bank_cells.specs.declared.known.First.TheVariants as level1
use Rattle.bank_events.specs.Apart.{AreHome}
use Rattle.bank_events.specs.KnownAfter.{first_supplied, dirty_cleared}
use Rattle.bank_events.specs.Targets.{IsTarget2}
use Rattle.bank_events.specs.Wide.{supplied_by}

-- ---- blocks that are supplied

-- the next target's block is supplied
pub supplied_more : (first : ℕ) (ts : List (ℕ × Request2)) (i : ℕ) (t : ℕ × Request2) (f new last : ℕ → First)
    → i < length ts → t ≡ get_or ts i t
    → new ≡ update f (first + t.1.position) (level1.InFlight t.1.destination fetch.Supplied)
    → supplied_by first f (drop i ts) ≡ last → supplied_by first new (drop (suc i) ts) ≡ last
supplied_more first [] i t f new last lt is now so = absurd (omega arith)
supplied_more first (x ∷ ts) zero t f new last lt is now so =
    ap (λ (g : ℕ → First). supplied_by first g ts) (now
    ∙ (λ i. update f (first + (is i).1.position) (level1.InFlight (is i).1.destination fetch.Supplied))) ∙ so
supplied_more first (x ∷ ts) (suc i) t f new last lt is now so =
    supplied_more first ts i t f new last (omega arith) is now so

-- all are
pub supplied_all : (first : ℕ) (ts : List (ℕ × Request2)) (i : ℕ) (f last : ℕ → First) → length ts ≤ i
    → supplied_by first f (drop i ts) ≡ last → f ≡ last
supplied_all first [] zero f last past so = so
supplied_all first [] (suc i) f last past so = so
supplied_all first (x ∷ ts) zero f last past so = absurd (omega arith)
supplied_all first (x ∷ ts) (suc i) f last past so = supplied_all first ts i f last (omega arith) so

-- each of the targets of a second-level block asks for a block of it
abbrev AreOf : Shape → ℕ → List (Held Asked) → Type 0
AreOf shape second held = AllByRecursion (λ h. second_of shape (block_asked h) ≡ second) held

targets_home : (shape : Shape) (second : ℕ) (held : List (Held Asked)) → AreHome shape held →
    AreOf shape second (targets_of held second)
targets_home shape second [] home = tt
targets_home shape second (h ∷ held) home = go (h.block == second) refl (targets_home shape second held home.1)
  where
    go : (b : Bool) → (h.block == second) ≡ b → AreOf shape second (targets_of held second) →
        AreOf shape second (cond b (h ∷ targets_of held second) (targets_of held second))
    go true e rest = (home.0 ∙ eqb-true h.block second e, rest)
    go false e rest = rest

module _ (shape : Shape) (second : ℕ) where
  -- a target's block is the one that is asked for
  block_is : (t : Request2) (asked : Asked) → IsTarget2 shape t asked → second_of shape asked.0 ≡ second →
      sub_block shape second t.position ≡ asked.0
  block_is t asked tells at = ap₂ (λ s p. sub_block shape s p) (sym at) tells.position ∙ sub_of_block shape asked.0

  supplied_alike : (xs : List (Held Request2)) (ys : List (Held Asked)) (f : ℕ → First) →
      AreAlike (IsTarget2 shape) xs ys → AreOf shape second ys
      → supplied_by (second * shape.factor) f (map released_pair xs) ≡ first_supplied f ys
  supplied_alike [] [] f alike home = refl
  supplied_alike (x ∷ xs) (y ∷ ys) f alike home =
      let tells = alike.0.target in
      let here = block_is x.target y.target tells home.0 in
      ap (λ (g : ℕ → First). supplied_by (second * shape.factor) g (map released_pair xs))
      (λ i. update f (here i) (level1.InFlight (tells.destination i) fetch.Supplied))
      ∙ supplied_alike xs ys _ alike.1 home.1
  supplied_alike [] (y ∷ ys) f alike home = absurd alike
  supplied_alike (x ∷ xs) [] f alike home = absurd alike

  -- the targets that a second-level block's registers hold supply the blocks that are asked for
  pub supplied_told : (held : List (Held Request2)) (fetched : List (Held Asked)) (f : ℕ → First) →
      AreAlike (IsTarget2 shape) held fetched → AreHome shape fetched →
      supplied_by (second * shape.factor) f (map released_pair (targets_of held second))
      ≡ first_supplied f (targets_of fetched second)
  supplied_told held fetched f alike home =
      supplied_alike (targets_of held second) (targets_of fetched second) f
      (targets_of-alike (IsTarget2 shape) held fetched alike second) (targets_home shape second fetched home)

  -- such a target names a place
  place_in : 0 < shape.factor → (xs : List (Held Request2)) (ys : List (Held Asked)) →
      AreAlike (IsTarget2 shape) xs ys → (i : ℕ) (t : ℕ × Request2) → i < length (map released_pair xs)
      → t ≡ get_or (map released_pair xs) i t → t.1.position < shape.factor
  place_in some (x ∷ xs) (y ∷ ys) alike zero t lt is =
      let below : place_of shape y.target.0 < shape.factor = omega (arith, some) in
      let same : t.1.position ≡ x.target.position = ap (λ (u : ℕ × Request2). u.1.position) is in
      omega (arith, alike.0.target.position, below, same)
  place_in some (x ∷ xs) (y ∷ ys) alike (suc i) t lt is = place_in some xs ys alike.1 i t (omega arith) is
  place_in some [] ys alike i t lt is = absurd (omega arith)
  place_in some (x ∷ xs) [] alike i t lt is = absurd alike

  pub place_below : 0 < shape.factor → (held : List (Held Request2)) (fetched : List (Held Asked)) →
      AreAlike (IsTarget2 shape) held fetched → (ts : List (ℕ × Request2))
      → ts ≡ map released_pair (targets_of held second) → (i : ℕ) (t : ℕ × Request2) → i < length ts
      → t ≡ get_or ts i t → t.1.position < shape.factor
  place_below some held fetched alike ts are i t lt is =
      place_in some (targets_of held second) (targets_of fetched second)
      (targets_of-alike (IsTarget2 shape) held fetched alike second) i t (omega (arith, ap length are))
      (is ∙ ap (λ (us : List (ℕ × Request2)). get_or us i t) are)

-- ---- blocks that are clean

-- so many blocks from the first one on are clean
abbrev pub cleared : (ℕ → ℕ) → ℕ → ℕ → ℕ → ℕ
cleared dirty first zero = dirty
cleared dirty first (suc n) = update (cleared dirty first n) (first + n) 0

apart_of : (a b : ℕ) → (a == b) ≡ false → a ≡ b → ⊥
apart_of a b e same = let equal = eq-eqb a b same in absurd (cc)

cleared_in : (dirty : ℕ → ℕ) (first n block : ℕ) → first ≤ block → block < first + n → cleared dirty first n block ≡ 0
cleared_in dirty first zero block le lt = absurd (omega arith)
cleared_in dirty first (suc n) block le lt =
    go (first + n == block) refl (λ below. cleared_in dirty first n block le below)
  where
    go : (b : Bool) → (first + n == block) ≡ b → (block < first + n → cleared dirty first n block ≡ 0) →
        cond b 0 (cleared dirty first n block) ≡ 0
    go true e rest = refl
    go false e rest = let apart = apart_of (first + n) block e in rest (omega (arith, apart, lt))

cleared_out : (dirty : ℕ → ℕ) (first n block : ℕ) → (first ≤ block → block < first + n → ⊥) →
    cleared dirty first n block ≡ dirty block
cleared_out dirty first zero block apart = refl
cleared_out dirty first (suc n) block apart = go (first + n == block) refl
    (cleared_out dirty first n block (λ le lt. apart le (omega (arith, lt))))
  where
    go : (b : Bool) → (first + n == block) ≡ b → cleared dirty first n block ≡ dirty block →
        cond b 0 (cleared dirty first n block) ≡ dirty block
    go true e rest =
        let same = eqb-true (first + n) block e in absurd (apart (omega (arith, same)) (omega (arith, same)))
    go false e rest = rest

-- the blocks of a second-level block lie between its first one and the next one's
inside : (factor block : ℕ) → 0 < factor →
    (block / factor * factor ≤ block) × (block < block / factor * factor + factor)
inside factor block some = let whole = div-add-mod' block factor in (omega (arith, whole), omega (arith, whole))

inside_only : (factor block second : ℕ) → second * factor ≤ block → block < second * factor + factor →
    block / factor ≡ second
inside_only factor block second le lt =
    let part : block - second * factor < factor = omega (arith, le, lt) in
    let whole : second * factor + (block - second * factor) ≡ block = omega (arith, le) in
    ap (λ n. n / factor) (sym whole) ∙ div-mul-add second factor (block - second * factor) part

-- all of a second-level block are
pub cleared_all : (shape : Shape) (dirty : ℕ → ℕ) (second : ℕ) → 0 < shape.factor →
    cleared dirty (second * shape.factor) shape.factor ≡ dirty_cleared shape dirty second
cleared_all shape dirty second some = fun_ext (λ block. go block (second_of shape block == second) refl)
  where
    go : (block : ℕ) (b : Bool) → (second_of shape block == second) ≡ b →
        cleared dirty (second * shape.factor) shape.factor block ≡ cond b 0 (dirty block)
    go block true e =
        let between = inside shape.factor block some in
        ap (λ s. cleared dirty (s * shape.factor) shape.factor block) (sym (eqb-true (second_of shape block) second e))
        ∙ cleared_in dirty (block / shape.factor * shape.factor) shape.factor block between.0 between.1
    go block false e = cleared_out dirty (second * shape.factor) shape.factor block (λ le lt.
        apart_of (second_of shape block) second e (inside_only shape.factor block second le lt))
