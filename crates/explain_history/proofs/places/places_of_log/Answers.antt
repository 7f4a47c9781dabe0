use Rattle.std.proofs.Common.{◌≡◌, ℕ, ◌+◌, ◌<◌, true, false, ◌==◌, List, ◌++◌, length, get_or, drop, sym, ap, ◌∙◌}
use Rattle.std.proofs.Common.{arith, eq-eqb}
use Rattle.std.proofs.lemmas.Bool.{eqb-true, false_from_ne_true}
use Rattle.explain_history.specs.Places.{places_from}
use Rattle.explain_history.proofs.Records.{no_record, told_here, not_here}
use Rattle.explain_history.proofs.places.places_of_log.Goals as goal
use Rattle.explain_history.proofs.places.places_of_log.Goals.{then-log+in_ok-push, else-log}

pub loop-place-preserved : goal.loop-place-preserved
loop-place-preserved c =
    let rs = c.args.records.now.records in
    let log = c.args.log in
    let k = c.loop-place.place in
    let lt : k < length rs = omega (arith, c.loop-place-test.true, c.len-place-end.ensures) in
    let log_is : c.log.result ≡ (get_or rs k no_record).log = c.log.ensures no_record in
    elim c.if-log.branch [
      | then-log+in_ok-push w ↦
          let is : ((get_or rs k no_record).log == log) ≡ true = eq-eqb _ log (sym log_is ∙ w.if-log.true) in
          ap (λ (ps : List ℕ). ps ++ places_from (λ r. r.log == log) (k + 1) (drop (k + 1) rs))
          (rw w.places-is w.in_ok-push.ensures.items)
          ∙ told_here (λ r. r.log == log) rs k c.loop-place.places.items _ lt is c.loop-place.invariant
      | else-log w ↦
          let isnt : ((get_or rs k no_record).log == log) ≡ false =
          false_from_ne_true _ (λ t. w.if-log.false (log_is ∙ eqb-true _ log t)) in
          rw w.places-is
          (not_here (λ r. r.log == log) rs k c.loop-place.places.items _ lt isnt c.loop-place.invariant)
    ]
