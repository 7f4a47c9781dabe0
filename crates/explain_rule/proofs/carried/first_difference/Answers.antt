use Rattle.std.proofs.Common.{◌<◌, length, drop, nat_eq, sym, ◌∙◌, inl, inr, arith}
use Rattle.std.proofs.lemmas.Bool.{cases_lt}
use Rattle.std.proofs.lemmas.List.Sums.{common_prefix_len-drop_yes, common_prefix_len-drop_no}
use Rattle.explain_rule.proofs.Prefix.{at_end_left, at_end_right}
use Rattle.explain_rule.proofs.carried.first_difference.Goals as goal

pub loop-place-preserved : goal.loop-place-preserved
loop-place-preserved c =
    let due = c.args.due.now in
    let found = c.args.found.now in
    let i = c.loop-place.place in
    let left : i < length due = omega arith in
    let right : i < length found = omega arith in
    omega (
      arith,
      c.loop-place.invariant,
      common_prefix_len-drop_yes nat_eq due found i 0 0 left right
          (sym c.same_at.ensures ∙ c.if-not-same_at.false),
    )

pub returns-then-not-same_at : goal.returns-then-not-same_at
returns-then-not-same_at c =
    let due = c.args.due.now in
    let found = c.args.found.now in
    let i = c.loop-place.place in
    let left : i < length due = omega arith in
    let right : i < length found = omega arith in
    omega (
      arith,
      c.loop-place.invariant,
      common_prefix_len-drop_no nat_eq due found i 0 0 left right
          (sym c.same_at.ensures ∙ c.if-not-same_at.true),
    )

pub returns : goal.returns
returns c =
    let due = c.args.due.now in
    let found = c.args.found.now in
    let i = c.loop-place.place in
    elim (cases_lt i (length due)) [
      | inl lt ↦ omega (arith, c.loop-place.invariant, at_end_right (drop i due) found i (omega arith))
      | inr le ↦ omega (arith, c.loop-place.invariant, at_end_left due (drop i found) i le)
    ]
