-- The clauses of a bank, all of which hold.
use Rattle.std.proofs.Common.{◌≡◌, Bool, true, false, cond, not, ◌&&◌, ◌||◌, List, [], ◌∷◌, Some, None, refl, sym}
use Rattle.std.proofs.lemmas.Bool.{both_ways}
use Rattle.lf_rules.specs.Clauses.{OfBank, Clause}
use Rattle.lf_rules.specs.Run.{judges, first_failing}
use Rattle.lf_rules.proofs.Clauses.{this_holds, others_hold}

abbrev pub HoldsIf : Bool → Bool → Type 0
HoldsIf true h = h ≡ true
HoldsIf false h = Unit {0}

abbrev pub BankHolds : List Clause → Type 0
BankHolds [] = Unit {0}
BankHolds (c ∷ cs) = HoldsIf (judges OfBank c.side) c.holds × BankHolds cs

pub bank_holds : (cs : List Clause) → first_failing OfBank cs ≡ None → BankHolds cs
bank_holds [] e = tt
bank_holds (c ∷ cs) e = go (judges OfBank c.side) (bank_holds cs) e
  where
    go : (j : Bool) → (first_failing OfBank cs ≡ None → BankHolds cs) →
        cond j (cond c.holds (first_failing OfBank cs) (Some c.rule)) (first_failing OfBank cs) ≡ None
        → HoldsIf j c.holds × BankHolds cs
    go true rest e = (
      this_holds c.holds c.rule (first_failing OfBank cs) e,
      rest
          (others_hold c.holds c.rule (first_failing OfBank cs) e),
    )
    go false rest e = (tt, rest e)

-- ---- Booleans

pub no_way : {A : Type 0} → ◌≡◌ {A = Bool} false true → A
no_way e = absurd (both_ways true (sym e) refl)

pub is_not : (b : Bool) → not b ≡ true → b ≡ false
is_not true e = no_way e
is_not false e = refl

left_true : (a b : Bool) → (a && b) ≡ true → a ≡ true
left_true true b e = refl
left_true false b e = no_way e

right_true : (a b : Bool) → (a && b) ≡ true → b ≡ true
right_true true b e = e
right_true false b e = no_way e

pub implied : (b c : Bool) → (not b || c) ≡ true → b ≡ true → c ≡ true
implied true c e p = e
implied false c e p = no_way p

-- what computes to true at each of so many Booleans
every : (p : Bool → Bool) → (p true && p false) ≡ true → (b : Bool) → p b ≡ true
every p e true = left_true (p true) (p false) e
every p e false = right_true (p true) (p false) e

every2 : (p : Bool → Bool → Bool) → ((p true true && p true false) && (p false true && p false false)) ≡ true →
    (a b : Bool) → p a b ≡ true
every2 p e a b = every (p a) (every (λ a. p a true && p a false) e a) b

abbrev pub all2 : (Bool → Bool → Bool) → Bool
all2 p = (p true true && p true false) && (p false true && p false false)

pub every4 : (p : Bool → Bool → Bool → Bool → Bool) → all2 (λ a b. all2 (p a b)) ≡ true → (a b c d : Bool) →
    p a b c d ≡ true
every4 p e a b c d = every2 (p a b) (every2 (λ a b. all2 (p a b)) e a b) c d

pub every5 : (p : Bool → Bool → Bool → Bool → Bool → Bool) →
    (all2 (λ a b. all2 (p true a b)) && all2 (λ a b. all2 (p false a b))) ≡ true → (a b c d f : Bool) →
    p a b c d f ≡ true
every5 p e a b c d f = every4 (p a) (every (λ a. all2 (λ b c. all2 (p a b c))) e a) b c d f
