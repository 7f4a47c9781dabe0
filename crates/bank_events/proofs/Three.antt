-- Three clauses of a bank.
use Rattle.std.proofs.Common.{◌≡◌, Bool, true, false, [], ◌∷◌, Some, None, refl}
use Rattle.lf_rules.specs.declared.rule.Rule.{Rule}
use Rattle.lf_rules.specs.Clauses.{OfBank, bank_wants}
use Rattle.lf_rules.specs.Run.{first_failing}

pub three_hold : (first second third : Rule) (a b c : Bool) → a ≡ true → b ≡ true → c ≡ true
    → first_failing OfBank (bank_wants first a ∷ bank_wants second b ∷ bank_wants third c ∷ []) ≡ None
three_hold first second third true true true p q r = refl
three_hold first second third false b c p q r = absurd (cc p)
three_hold first second third true false c p q r = absurd (cc q)
three_hold first second third true true false p q r = absurd (cc r)

pub third_fails : (first second third : Rule) (a b c : Bool) → a ≡ true → b ≡ true → c ≡ false
    → first_failing OfBank (bank_wants first a ∷ bank_wants second b ∷ bank_wants third c ∷ []) ≡ Some third
third_fails first second third true true false p q r = refl
third_fails first second third false b c p q r = absurd (cc p)
third_fails first second third true false c p q r = absurd (cc q)
third_fails first second third true true true p q r = absurd (cc r)

pub second_fails : (first second third : Rule) (a b c : Bool) → a ≡ true → b ≡ false
    → first_failing OfBank (bank_wants first a ∷ bank_wants second b ∷ bank_wants third c ∷ []) ≡ Some second
second_fails first second third true false c p q = refl
second_fails first second third false b c p q = absurd (cc p)
second_fails first second third true true c p q = absurd (cc q)

pub first_fails : (first second third : Rule) (a b c : Bool) → a ≡ false
    → first_failing OfBank (bank_wants first a ∷ bank_wants second b ∷ bank_wants third c ∷ []) ≡ Some first
first_fails first second third false b c p = refl
first_fails first second third true b c p = absurd (cc p)
