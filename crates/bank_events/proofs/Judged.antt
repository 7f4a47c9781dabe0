-- Clauses of a bank in order: which one fails first.
use Rattle.std.proofs.Common.{◌≡◌, Bool, true, false, [], ◌∷◌, Option, Some, None}
use Rattle.lf_rules.specs.declared.rule.Rule.{Rule}
use Rattle.lf_rules.specs.Clauses.{OfBank, bank_wants}
use Rattle.lf_rules.specs.Run.{first_failing}

-- three clauses
module _ (first second third : Rule) where
  abbrev three : Bool → Bool → Bool → Option Rule
  three a b c = first_failing OfBank (bank_wants first a ∷ bank_wants second b ∷ bank_wants third c ∷ [])

  pub third_fails : (a b c : Bool) → a ≡ true → b ≡ true → c ≡ false → three a b c ≡ Some third
  third_fails a b c p q r = λ i. three (p i) (q i) (r i)

  pub three_hold : (a b c : Bool) → a ≡ true → b ≡ true → c ≡ true → three a b c ≡ None
  three_hold a b c p q r = λ i. three (p i) (q i) (r i)

-- four clauses
module _ (first second third fourth : Rule) where
  abbrev four : Bool → Bool → Bool → Bool → Option Rule
  four a b c d = first_failing OfBank
      (bank_wants first a ∷ bank_wants second b ∷ bank_wants third c ∷ bank_wants fourth d ∷ [])

  pub second_of_four : (a b c d : Bool) → a ≡ true → b ≡ false → four a b c d ≡ Some second
  second_of_four a b c d p q = λ i. four (p i) (q i) c d

  pub third_of_four : (a b c d : Bool) → a ≡ true → b ≡ true → c ≡ false → four a b c d ≡ Some third
  third_of_four a b c d p q r = λ i. four (p i) (q i) (r i) d

  pub fourth_of_four : (a b c d : Bool) → a ≡ true → b ≡ true → c ≡ true → d ≡ false → four a b c d ≡ Some fourth
  fourth_of_four a b c d p q r s = λ i. four (p i) (q i) (r i) (s i)

  pub four_hold : (a b c d : Bool) → a ≡ true → b ≡ true → c ≡ true → d ≡ true → four a b c d ≡ None
  four_hold a b c d p q r s = λ i. four (p i) (q i) (r i) (s i)
