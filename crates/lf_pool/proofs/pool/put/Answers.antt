use Rattle.std.proofs.Common.{◌≡◌, ◌≤◌, ℕ, List, [], ◌∷◌, length, set, Option, Some, sym, ap, ◌∙◌, refl, arith}
use Rattle.std.proofs.Common.{append_assoc, append-nil}
use Rattle.std.specs.Vec.Iter.{into_iter_items}
use Rattle.std.proofs.lemmas.List.{set_past}
use Rattle.lf_rules.specs.declared.outcome.Outcome.{Outcome}
use Rattle.lf_pool.specs.Worked.{put_all}
use Rattle.lf_pool.proofs.Placing.{put_all_snoc}
use Rattle.lf_pool.proofs.pool.put.Goals as goal

pub loop-number-preserved-then-number-len : goal.loop-number-preserved-then-number-len
loop-number-preserved-then-number-len c =
    let at = c.loop-number in
    let p : ℕ × Outcome = (c.in-Some.number, c.in-Some.outcome) in
    let steps : into_iter_items at.number-iterator ≡ p ∷ into_iter_items c.next.new.self =
    c.in-Some.ensures.steps.0 in record {
      rest = append_assoc at.yielded (p ∷ []) _ ∙ rw (← steps) at.invariant.rest;
      left = (let was = at.invariant.left in let gone = c.in-Some.ensures.steps.1 in let short = ap length steps in
          omega arith);
      placed = ap (λ (l : List (Option Outcome)). set l c.in-Some.number (Some c.in-Some.outcome)) at.invariant.placed
          ∙ sym (put_all_snoc c.args.outcomes.now.items at.yielded p);
    }

pub loop-number-preserved : goal.loop-number-preserved
loop-number-preserved c =
    let at = c.loop-number in
    let p : ℕ × Outcome = (c.in-Some.number, c.in-Some.outcome) in
    let steps : into_iter_items at.number-iterator ≡ p ∷ into_iter_items c.next.new.self = c.in-Some.ensures.steps.0 in
    let first : List (Option Outcome) = c.args.outcomes.now.items in
    let long : length (put_all first at.yielded) ≤ c.in-Some.number =
    (let same = ap length at.invariant.placed in let ok = at.outcomes.ok in omega arith) in record {
      rest = append_assoc at.yielded (p ∷ []) _ ∙ rw (← steps) at.invariant.rest;
      left = (let was = at.invariant.left in let gone = c.in-Some.ensures.steps.1 in let short = ap length steps in
          omega arith);
      placed = at.invariant.placed ∙ (sym (set_past (put_all first at.yielded) c.in-Some.number
          (Some c.in-Some.outcome) long) ∙ sym (put_all_snoc first at.yielded p));
    }

nothing_left : {X : Type 0} (l : List X) → length l ≡ 0 → l ≡ []
nothing_left [] h = refl
nothing_left (x ∷ xs) h = absurd (omega arith)

pub returns : goal.returns
returns c =
    let at = c.loop-number in
    let none = c.in-None.ensures.steps in
    let empty : into_iter_items at.number-iterator ≡ [] = nothing_left _ (sym at.invariant.left ∙ none.0) in
    let all = sym (append-nil at.yielded) ∙ rw empty at at.invariant.rest in
    at.invariant.placed ∙ ap (put_all c.args.outcomes.now.items) all
