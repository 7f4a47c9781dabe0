-- A list of clauses holds exactly where those of the port and those of the bank do.
use Rattle.std.proofs.Common.{◌≡◌, Bool, true, false, cond, List, [], ◌∷◌, Option, Some, None, refl}
use Rattle.lf_rules.specs.declared.rule.Rule.{Rule}
use Rattle.lf_rules.specs.Table.{Side, OfPort, OfBank, OfBoth, Clause}
use Rattle.lf_rules.specs.Run.{judges, first_failing}

part_step : (j h : Bool) (rule : Rule) (p t : Option Rule) → (t ≡ None → p ≡ None) → cond h t (Some rule) ≡ None →
    cond j (cond h p (Some rule)) p ≡ None
part_step true true rule p t f e = f e
part_step true false rule p t f e = e
part_step false true rule p t f e = f e
part_step false false rule p t f e = cc

pub part_holds : (side : Side) (cs : List Clause) → first_failing OfBoth cs ≡ None → first_failing side cs ≡ None
part_holds side [] e = refl
part_holds side (c ∷ cs) e =
    part_step (judges side c.side) c.holds c.rule (first_failing side cs) (first_failing OfBoth cs)
    (part_holds side cs) e

both_step : (s : Side) (h : Bool) (rule : Rule) (p b t : Option Rule) → (p ≡ None → b ≡ None → t ≡ None)
    → cond (judges OfPort s) (cond h p (Some rule)) p ≡ None → cond (judges OfBank s) (cond h b (Some rule)) b ≡ None
    → cond (judges OfBoth s) (cond h t (Some rule)) t ≡ None
both_step OfPort true rule p b t f x y = f x y
both_step OfPort false rule p b t f x y = x
both_step OfBank true rule p b t f x y = f x y
both_step OfBank false rule p b t f x y = y
both_step OfBoth true rule p b t f x y = f x y
both_step OfBoth false rule p b t f x y = x

pub both_hold : (cs : List Clause) → first_failing OfPort cs ≡ None → first_failing OfBank cs ≡ None →
    first_failing OfBoth cs ≡ None
both_hold [] x y = refl
both_hold (c ∷ cs) x y =
    both_step c.side c.holds c.rule (first_failing OfPort cs) (first_failing OfBank cs) (first_failing OfBoth cs)
    (both_hold cs) x y

-- ---- the first clause of a list and those after it

pub this_holds : (h : Bool) (rule : Rule) (rest : Option Rule) → cond h rest (Some rule) ≡ None → h ≡ true
this_holds true rule rest e = refl
this_holds false rule rest e = cc

pub others_hold : (h : Bool) (rule : Rule) (rest : Option Rule) → cond h rest (Some rule) ≡ None → rest ≡ None
others_hold true rule rest e = e
others_hold false rule rest e = cc

-- each clause of the list holds
abbrev pub AllHold : List Clause → Type 0
AllHold [] = Unit {0}
AllHold (c ∷ cs) = (c.holds ≡ true) × AllHold cs

pub all_hold : (cs : List Clause) → first_failing OfBoth cs ≡ None → AllHold cs
all_hold [] e = tt
all_hold (c ∷ cs) e = (
  this_holds c.holds c.rule (first_failing OfBoth cs) e,
  all_hold cs
      (others_hold c.holds c.rule (first_failing OfBoth cs) e),
)
