use Rattle.std.proofs.Common.{◌≡◌, ℕ, ◌+◌, ◌<◌, true, false, ◌==◌, Option, length, get_or, drop, sym, ap, ◌∙◌, arith}
use Rattle.std.proofs.Common.{eq-eqb, subst}
use Rattle.std.specs.Prelude.{IfSome}
use Rattle.std.proofs.lemmas.Bool.{eqb-true, false_from_ne_true}
use Rattle.lf_rules.specs.declared.event.Record.{Record}
use Rattle.explain_history.specs.Waiting.{waiting_after, waiting_from}
use Rattle.explain_history.proofs.Records.{no_record}
use Rattle.explain_history.proofs.Waited.{wait_from, further}
use Rattle.explain_history.proofs.waiting.waiting_request.Goals as goal
use Rattle.explain_history.proofs.waiting.waiting_request.Goals.{then-log-port, else-log-port}

pub loop-place-preserved : goal.loop-place-preserved
loop-place-preserved c =
    let rs = c.args.records.now.records in
    let port = c.args.port in
    let tag = c.args.tag in
    let k = c.loop-place.place in
    let before = c.loop-place.waiting in
    let rest = drop (k + 1) rs in
    let lt : k < length rs = omega (arith, c.loop-place-test.true, c.len-place-end.ensures) in
    let log_is : c.log.result ≡ (get_or rs k no_record).log = c.log.ensures no_record in
    elim c.if-log-port.branch [
      | then-log-port w ↦
          let is : ((get_or rs k no_record).log == port) ≡ true = eq-eqb _ port (sym log_is ∙ w.if-log-port.true) in
          record {
            inside =
                subst (λ (now : Option ℕ). IfSome now (λ place. place < k + 1)) (sym w.waiting-is)
                (w.waiting_after-waiting.ensures.inside (k + 1) (omega arith)
                (further before k c.loop-place.invariant.inside));
            request =
                ap (λ (now : Option ℕ). waiting_from port tag (k + 1) now rest)
                (w.waiting-is ∙ w.waiting_after-waiting.ensures.after
                ∙ ap (λ (r : Record). waiting_after tag k before r.event) (w.lend-item.ensures no_record))
                ∙ sym (wait_from port tag k before rs true lt is) ∙ c.loop-place.invariant.request;
          }
      | else-log-port w ↦
          let isnt : ((get_or rs k no_record).log == port) ≡ false =
          false_from_ne_true _ (λ t. w.if-log-port.false (log_is ∙ eqb-true _ port t)) in
          record {
            inside = subst (λ (now : Option ℕ). IfSome now (λ place. place < k + 1)) (sym w.waiting-is)
                (further before k c.loop-place.invariant.inside);
            request =
                ap (λ (now : Option ℕ). waiting_from port tag (k + 1) now rest) w.waiting-is
                ∙ sym (wait_from port tag k before rs false lt isnt) ∙ c.loop-place.invariant.request;
          }
    ]
