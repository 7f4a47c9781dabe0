use Rattle.std.proofs.Common.{◌≡◌, List, ℕ, Option, sym, ap, ◌∙◌, subst, arith}
use Rattle.lf_rules.specs.declared.event.Record.{Record}
use Rattle.lf_rules.specs.Numbers.{numbers_of}
use Rattle.lf_logs.specs.Reordering.{Reordering, IsLeastDouble, HasOrdered}
use Rattle.lf_logs.proofs.Reordered.{fine_from, occurring, whole_from_none}
use Rattle.lf_logs.proofs.reorder.Reorder.fault.Goals as goal

-- what the number that is kept says
kept : (inside o : Reordering) (put gave : List Record) (double : Option ℕ) → HasOrdered o put gave → inside ≡ o →
    inside.double ≡ double → IsLeastDouble (numbers_of put) double
kept inside o put gave double has same is = subst (IsLeastDouble (numbers_of put))
    (sym (ap (λ (o : Reordering). o.double) same) ∙ is) has.double

pub returns-in-None-clause-whole : goal.returns-in-None-clause-whole
returns-in-None-clause-whole c put gave has =
    whole_from_none (numbers_of put) (c.in_default.ensures.none put gave has)
    (kept _ c.args.self.now put gave _ has c.self.view_is c.in-None.is)

pub returns-in-Some-double-clause-fault : goal.returns-in-Some-double-clause-fault
returns-in-Some-double-clause-fault c put gave has =
    let least = kept _ c.args.self.now put gave _ has c.self.view_is c.in-Some-double.is in (
      least.0,
      fine_from (numbers_of put) c.in-Some-double.double (λ j h. c.in_default.ensures.none put gave has j)
          least.1,
    )

pub returns-in-None-double-clause-fault : goal.returns-in-None-double-clause-fault
returns-in-None-double-clause-fault c put gave has =
    let none = kept _ c.args.self.now put gave _ has c.self.view_is c.in-None-double.is in
    let missing = c.in-Some.ensures.some put gave has in (
      missing.0,
      fine_from (numbers_of put) c.in-Some.k (λ j h. occurring (numbers_of put) j (missing.1 j h))
          (λ j h. none j),
    )

pub returns-then-double-k-clause-fault : goal.returns-then-double-k-clause-fault
returns-then-double-k-clause-fault c put gave has =
    let least = kept _ c.args.self.now put gave _ has c.self.view_is c.in-Some-double-2.is in
    let missing = c.in-Some.ensures.some put gave has in (
      least.0,
      fine_from (numbers_of put) c.in-Some-double-2.double
          (λ j h. occurring (numbers_of put) j (missing.1 j (omega arith))) least.1,
    )

pub returns-else-double-k-clause-fault : goal.returns-else-double-k-clause-fault
returns-else-double-k-clause-fault c put gave has =
    let least = kept _ c.args.self.now put gave _ has c.self.view_is c.in-Some-double-2.is in
    let missing = c.in-Some.ensures.some put gave has in (
      missing.0,
      fine_from (numbers_of put) c.in-Some.k (λ j h. occurring (numbers_of put) j (missing.1 j h))
          (λ j h. least.1 j (omega arith)),
    )
