-- The blocks that the targets of a second-level block ask for, which a fill of level two supplies.
use Rattle.std.proofs.Common.{◌≡◌, ℕ, Bool, true, false, cond, not, ◌||◌, ◌==◌, List, [], ◌∷◌, map, refl, sym}
use Rattle.std.proofs.Common.{ap, ◌∙◌, eqb-true}
use Rattle.std.specs.List.{AllByRecursion}
use Rattle.lf_rules.specs.declared.shape.Shape.{Shape}
use Rattle.lf_rules.specs.Address.{second_of}
use Rattle.lf_rules.specs.Registers.{Held, targets_of, released}
use Rattle.lf_rules.specs.State.{update, Asked}
use Rattle.lf_rules.specs.Table.{is_among, block_asked}
use Rattle.lf_rules.proofs.CopyStep.{filter_all, asked_among}
use Rattle.bank_cells.specs.declared.known.Fetch.TheVariants as fetch
use Rattle.bank_cells.specs.declared.known.First.{First}
use Rattle.bank_cells.specs.declared.known.First.TheVariants as level1
use Rattle.lf_levels.proofs.Entries.{flip}
use Rattle.bank_events.specs.Apart.{asks_for, AreHome}
use Rattle.bank_events.specs.Known.{register_of}
use Rattle.bank_events.specs.KnownAfter.{first_supplied}
use Rattle.bank_events.specs.Agrees.{IsFetched}

-- ---- what is known of a block after a supply

-- each target names the register of its block
abbrev pub NameRegisters : (ℕ → First) → List (Held Asked) → Type 0
NameRegisters f held = AllByRecursion (λ h. register_of (f (block_asked h)) ≡ h.target.1) held

-- the block of one more target
abbrev supplied_one : (ℕ → First) → Held Asked → ℕ → First
supplied_one f h = update f (block_asked h) (level1.InFlight h.target.1 fetch.Supplied)

names_kept : (f : ℕ → First) (h : Held Asked) (held : List (Held Asked)) →
    register_of (f (block_asked h)) ≡ h.target.1 → NameRegisters f held → NameRegisters (supplied_one f h) held
names_kept f h [] one all = tt
names_kept f h (g ∷ held) one all = (go (block_asked h == block_asked g) refl, names_kept f h held one all.1)
  where
    go : (b : Bool) → (block_asked h == block_asked g) ≡ b
        → register_of (cond b (level1.InFlight h.target.1 fetch.Supplied) (f (block_asked g))) ≡ g.target.1
    go true e = sym one ∙ ap (λ n. register_of (f n)) (eqb-true (block_asked h) (block_asked g) e) ∙ all.0
    go false e = all.0

-- a block that some target asks for is supplied, with its register, and another is as before
pub supplied_at : (f : ℕ → First) (held : List (Held Asked)) (y : ℕ) → NameRegisters f held
    → first_supplied f held y ≡ cond (asks_for held y) (level1.InFlight (register_of (f y)) fetch.Supplied) (f y)
supplied_at f [] y all = refl
supplied_at f (h ∷ held) y all = supplied_at (supplied_one f h) held y (names_kept f h held all.0 all.1)
    ∙ go (block_asked h == y) (asks_for held y) refl
  where
    now_supplied : First
    now_supplied = level1.InFlight h.target.1 fetch.Supplied

    this : (block_asked h == y) ≡ true → now_supplied ≡ level1.InFlight (register_of (f y)) fetch.Supplied
    this e = ap (λ n. level1.InFlight n fetch.Supplied)
        (sym all.0 ∙ ap (λ n. register_of (f n)) (eqb-true (block_asked h) y e))

    go : (b c : Bool) → (block_asked h == y) ≡ b
        → cond c (level1.InFlight (register_of (cond b now_supplied (f y))) fetch.Supplied) (cond b now_supplied (f y))
        ≡ cond (b || c) (level1.InFlight (register_of (f y)) fetch.Supplied) (f y)
    go false c e = refl
    go true true e = this e
    go true false e = this e

-- ---- the targets of a second-level block

among_asked : (held : List (Held Asked)) (y : ℕ) → is_among (map block_asked held) y ≡ asks_for held y
among_asked [] y = refl
among_asked (h ∷ held) y = ap (λ b. (block_asked h == y) || b) (among_asked held y)

module _ (shape : Shape) (f : ℕ → First) where
  -- a block that a target asks for is in a level-two register
  pub asked_is_missed : (held : List (Held Asked)) (y : ℕ) → AllByRecursion (IsFetched shape f) held →
      asks_for held y ≡ true → f y ≡ level1.InFlight (register_of (f y)) fetch.Missed
  asked_is_missed [] y all e = absurd (cc e)
  asked_is_missed (h ∷ held) y all e = go (block_asked h == y) refl (asked_is_missed held y all.1) e
    where
      go : (b : Bool) → (block_asked h == y) ≡ b
          → (asks_for held y ≡ true → f y ≡ level1.InFlight (register_of (f y)) fetch.Missed)
          → (b || asks_for held y) ≡ true → f y ≡ level1.InFlight (register_of (f y)) fetch.Missed
      go true is rest e =
          let here : f y ≡ level1.InFlight h.target.1 fetch.Missed =
          ap f (sym (eqb-true (block_asked h) y is)) ∙ all.0.0 in
          here ∙ ap (λ n. level1.InFlight n fetch.Missed) (sym (ap register_of here))
      go false is rest e = rest e

  names : (held : List (Held Asked)) → AllByRecursion (IsFetched shape f) held → NameRegisters f held
  names [] all = tt
  names (h ∷ held) all = (ap register_of all.0.0, names held all.1)

  homes : (held : List (Held Asked)) → AllByRecursion (IsFetched shape f) held → AreHome shape held
  homes [] all = tt
  homes (h ∷ held) all = (all.0.1, homes held all.1)

  module _ (held : List (Held Asked)) (second : ℕ) (all : AllByRecursion (IsFetched shape f) held) where
    abbrev asked_here : ℕ → Bool
    asked_here y = asks_for (targets_of held second) y

    pub supplied_among : (y : ℕ) → is_among (map block_asked (targets_of held second)) y ≡ asked_here y
    supplied_among y = among_asked (targets_of held second) y

    pub targets_fetched : AllByRecursion (IsFetched shape f) (targets_of held second)
    targets_fetched = filter_all (IsFetched shape f) (λ h. h.block == second) held all

    pub supplied_is : (y : ℕ) → first_supplied f (targets_of held second) y
        ≡ cond (asked_here y) (level1.InFlight (register_of (f y)) fetch.Supplied) (f y)
    supplied_is y = supplied_at f (targets_of held second) y (names (targets_of held second) targets_fetched)

    -- the block of another second-level block is as before
    supplied_other : (y : ℕ) → (second == second_of shape y) ≡ false →
        first_supplied f (targets_of held second) y ≡ f y
    supplied_other y apart = supplied_is y
        ∙ ap (λ b. cond b (level1.InFlight (register_of (f y)) fetch.Supplied) (f y))
        (sym (supplied_among y) ∙ asked_among shape held second y (homes held all)
        ∙ ap (λ b. cond b (asks_for held y) false) apart)

    abbrev first_now : ℕ → First
    first_now = first_supplied f (targets_of held second)

    abbrev AreFetched : List (Held Asked) → Type 0
    AreFetched hs = AllByRecursion (IsFetched shape first_now) hs

    -- the targets of other second-level blocks keep theirs
    pub others_fetched : AreFetched (released held second)
    others_fetched = walk held all
      where
        keeps : (h : Held Asked) → (h.block == second) ≡ false → IsFetched shape f h → IsFetched shape first_now h
        keeps h apart is = (
          supplied_other (block_asked h)
              (flip second (second_of shape (block_asked h)) ∙ ap (λ n. n == second) is.1 ∙ apart) ∙ is.0,
          is.1,
        )

        walk : (hs : List (Held Asked)) → AllByRecursion (IsFetched shape f) hs → AreFetched (released hs second)
        walk [] all = tt
        walk (h ∷ hs) all = go (h.block == second) refl (walk hs all.1)
          where
            go : (b : Bool) → (h.block == second) ≡ b → AreFetched (released hs second) →
                AreFetched (cond (not b) (h ∷ released hs second) (released hs second))
            go true e rest = rest
            go false e rest = (keeps h e all.0, rest)
