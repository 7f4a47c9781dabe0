-- The first entry of a list that passes.
use Rattle.std.proofs.Common.{◌≡◌, ℕ, Bool, true, false, cond, ◌||◌, ◌==◌, List, [], ◌∷◌, Option, Some, None, refl, ap}
use Rattle.std.proofs.Common.{sym, ◌∙◌, subst, take, drop, ◌++◌, zero, suc, not, length, nat_lt, ◌+◌, ◌<◌, ◌≤◌, arith}
use Rattle.std.proofs.Common.{append-nil, get_or}
use mathlib.Core.Path.{ap₂}
use Rattle.std.proofs.lemmas.Bool.{ltb-false}
use Rattle.std.proofs.lemmas.List.{take_all, drop_all}
use Rattle.std.proofs.lemmas.List.Quantifiers.{position-Some}
use Rattle.std.specs.Prelude.{MatchOption, option_copied}
use denote.Bor.{Bor}
use Rattle.std.specs.List.{find, list_any, position, position_or_len, remove}
use Rattle.lf_rules.specs.State.{Ready}
use Rattle.lf_rules.specs.Table.{asked_register, is_asked, is_ready_for, first_ready, without_ready}

abbrev pub register_in : Option (ℕ × ℕ) → ℕ
register_in None = 0
register_in (Some a) = a.1

pub asked_found : (asked : List (ℕ × ℕ)) (block : ℕ) → asked_register asked block
    ≡ register_in (find (λ a. a.0 == block) asked)
asked_found [] block = refl
asked_found (a ∷ asked) block = elim (a.0 == block) as (λ b. cond b a.1 (asked_register asked block)
    ≡ register_in (cond b (Some a) (find (λ a. a.0 == block) asked))) [
      | true ↦ refl
      | false ↦ asked_found asked block
    ]

abbrev pub IsFirstAsked : List (ℕ × ℕ) → ℕ → Option (ℕ × ℕ) → Type 0
IsFirstAsked asked block found = MatchOption found (is_asked asked block ≡ false)
    (λ a. (is_asked asked block ≡ true) × (a.1 ≡ asked_register asked block))

entry_found : (asked : List (ℕ × ℕ)) (block : ℕ) → IsFirstAsked asked block (find (λ a. a.0 == block) asked)
entry_found [] block = refl
entry_found (a ∷ asked) block =
    elim (a.0 == block) as (λ b. MatchOption (cond b (Some a) (find (λ a. a.0 == block) asked))
    ((b || is_asked asked block) ≡ false)
    (λ e. ((b || is_asked asked block) ≡ true) × (e.1 ≡ cond b a.1 (asked_register asked block)))) [
      | true ↦ (refl, refl)
      | false ↦ entry_found asked block
    ]

-- what the entry that is found says
pub entry_told : (asked : List (ℕ × ℕ)) (block : ℕ) (found : Option (ℕ × ℕ)) →
    found ≡ find (λ a. a.0 == block) asked → IsFirstAsked asked block found
entry_told asked block found e = let P : Option (ℕ × ℕ) → Type 0 = IsFirstAsked asked block in
    subst P (sym e) (entry_found asked block)

abbrev pub IsFirstReady : List Ready → ℕ → ℕ → Option Ready → Type 0
IsFirstReady ready port tag found = MatchOption found (list_any (is_ready_for port tag) ready ≡ false)
    (λ r. (list_any (is_ready_for port tag) ready ≡ true) × (r.value ≡ first_ready ready port tag))

pub ready_found : (ready : List Ready) (port tag : ℕ) → IsFirstReady ready port tag (find (is_ready_for port tag) ready)
ready_found [] port tag = refl
ready_found (r ∷ ready) port tag =
    elim (is_ready_for port tag r) as (λ b. MatchOption (cond b (Some r) (find (is_ready_for port tag) ready))
    ((b || list_any (is_ready_for port tag) ready) ≡ false)
    (λ s. ((b || list_any (is_ready_for port tag) ready) ≡ true) ×
    (s.value ≡ cond b r.value (first_ready ready port tag)))) [
      | true ↦ (refl, refl)
      | false ↦ ready_found ready port tag
    ]

pub ready_lent : (ready : List Ready) (port tag : ℕ) (found : Option (Bor Ready)) →
    option_copied found ≡ find (is_ready_for port tag) ready
    → MatchOption found (list_any (is_ready_for port tag) ready ≡ false)
    (λ r. (list_any (is_ready_for port tag) ready ≡ true) × (r.now.value ≡ first_ready ready port tag))
ready_lent ready port tag None e = let P : Option Ready → Type 0 = IsFirstReady ready port tag in
    subst P (sym e) (ready_found ready port tag)
ready_lent ready port tag (Some r) e = let P : Option Ready → Type 0 = IsFirstReady ready port tag in
    subst P (sym e) (ready_found ready port tag)

-- ---- the first ready reply leaves

ready_dropped : (ready : List Ready) (port tag : ℕ)
    → take (position_or_len (is_ready_for port tag) ready) ready
    ++ drop (suc (position_or_len (is_ready_for port tag) ready)) ready ≡ without_ready ready port tag
ready_dropped [] port tag = refl
ready_dropped (r ∷ ready) port tag = go (is_ready_for port tag r) (ready_dropped ready port tag)
  where
    go : (b : Bool) → take (position_or_len (is_ready_for port tag) ready) ready
        ++ drop (suc (position_or_len (is_ready_for port tag) ready)) ready ≡ without_ready ready port tag
        → take (cond (not b) (1 + position_or_len (is_ready_for port tag) ready) 0) (r ∷ ready)
        ++ drop (suc (cond (not b) (1 + position_or_len (is_ready_for port tag) ready) 0)) (r ∷ ready)
        ≡ cond b ready (r ∷ without_ready ready port tag)
    go true rest = refl
    go false rest =
        let one : 1 + position_or_len (is_ready_for port tag) ready
        ≡ suc (position_or_len (is_ready_for port tag) ready) = omega arith in
        ap (λ k. take k (r ∷ ready) ++ drop (suc k) (r ∷ ready)) one ∙ ap (λ (rs : List Ready). r ∷ rs) rest

pub removed_at : (ready : List Ready) (port tag at : ℕ) → Some at ≡ position (is_ready_for port tag) ready →
    remove ready at ≡ without_ready ready port tag
removed_at ready port tag at e = go (nat_lt (position_or_len (is_ready_for port tag) ready) (length ready)) e
  where
    go : (b : Bool) → ◌≡◌ {A = Option ℕ} (Some at) (cond b (Some (position_or_len (is_ready_for port tag) ready))
        None) → remove ready at ≡ without_ready ready port tag
    go true f = let same : at ≡ position_or_len (is_ready_for port tag) ready = cc in
        ap (remove ready) same ∙ ready_dropped ready port tag
    go false f = absurd (cc)

pub none_removed : (ready : List Ready) (port tag : ℕ) → None ≡ position (is_ready_for port tag) ready →
    ready ≡ without_ready ready port tag
none_removed ready port tag e = go (nat_lt (position_or_len (is_ready_for port tag) ready) (length ready)) refl e
  where
    go : (b : Bool) → nat_lt (position_or_len (is_ready_for port tag) ready) (length ready) ≡ b
        → ◌≡◌ {A = Option ℕ} None (cond b (Some (position_or_len (is_ready_for port tag) ready)) None) →
        ready ≡ without_ready ready port tag
    go true e f = absurd (cc)
    go false e f =
        let past : length ready ≤ position_or_len (is_ready_for port tag) ready =
        ltb-false (position_or_len (is_ready_for port tag) ready) (length ready) e in
        sym (append-nil ready) ∙ ap₂ (λ (xs ys : List Ready). xs ++ ys) (sym (take_all _ ready past))
        (sym (drop_all (suc (position_or_len (is_ready_for port tag) ready)) ready (omega arith)))
        ∙ ready_dropped ready port tag

-- ---- the first ready reply, by its place

ready_read : (ready : List Ready) (port tag at : ℕ) (d : Ready) → at < length ready →
    is_ready_for port tag (get_or ready at d) ≡ true →
    ((k : ℕ) → k < at → is_ready_for port tag (get_or ready k d) ≡ false)
    → (list_any (is_ready_for port tag) ready ≡ true) × ((get_or ready at d).value ≡ first_ready ready port tag)
ready_read [] port tag at d lt passes before = absurd (omega (arith, lt))
ready_read (r ∷ ready) port tag zero d lt passes before = (
  ap (λ b. b || list_any (is_ready_for port tag) ready) passes,
  ap (λ b. cond b r.value (first_ready ready port tag)) (sym passes),
)
ready_read (r ∷ ready) port tag (suc at) d lt passes before =
    let other : is_ready_for port tag r ≡ false = before 0 (omega arith) in
    let rest = ready_read ready port tag at d (omega (arith, lt)) passes
    (λ k below. before (suc k) (omega (arith, below))) in (
      ap (λ b. b || list_any (is_ready_for port tag) ready) other ∙ rest.0,
      rest.1 ∙ ap (λ b. cond b r.value (first_ready ready port tag)) (sym other),
    )

-- what stands at the place of the first ready reply
pub ready_there : (ready : List Ready) (port tag at : ℕ) (d : Ready) →
    Some at ≡ position (is_ready_for port tag) ready
    → (at < length ready) × (list_any (is_ready_for port tag) ready ≡ true) ×
    ((get_or ready at d).value ≡ first_ready ready port tag)
ready_there ready port tag at d e =
    let there = position-Some (is_ready_for port tag) ready at d (sym e) in
    let read = ready_read ready port tag at d there.0 there.1 there.2 in
    (there.0, read.0, read.1)

none_passes : (ready : List Ready) (port tag : ℕ) → length ready ≤ position_or_len (is_ready_for port tag) ready →
    list_any (is_ready_for port tag) ready ≡ false
none_passes [] port tag past = refl
none_passes (r ∷ ready) port tag past = go (is_ready_for port tag r) past (none_passes ready port tag)
  where
    go : (b : Bool)
        → suc (length ready) ≤ cond (not b) (1 + position_or_len (is_ready_for port tag) ready) 0
        → (length ready ≤ position_or_len (is_ready_for port tag) ready →
        list_any (is_ready_for port tag) ready ≡ false)
        → (b || list_any (is_ready_for port tag) ready) ≡ false
    go true past rest = absurd (omega (arith, past))
    go false past rest = rest (omega (arith, past))

-- no reply is ready where there is no place of one
pub none_ready : (ready : List Ready) (port tag : ℕ) → None ≡ position (is_ready_for port tag) ready →
    list_any (is_ready_for port tag) ready ≡ false
none_ready ready port tag e = go (nat_lt (position_or_len (is_ready_for port tag) ready) (length ready)) refl e
  where
    go : (b : Bool) → nat_lt (position_or_len (is_ready_for port tag) ready) (length ready) ≡ b
        → ◌≡◌ {A = Option ℕ} None (cond b (Some (position_or_len (is_ready_for port tag) ready)) None) →
        list_any (is_ready_for port tag) ready ≡ false
    go true e f = absurd (cc)
    go false e f = none_passes ready port tag
        (ltb-false (position_or_len (is_ready_for port tag) ready) (length ready) e)
