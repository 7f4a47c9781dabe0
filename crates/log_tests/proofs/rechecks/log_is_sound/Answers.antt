use Rattle.std.proofs.Common.{◌≡◌, sym, ◌∙◌, subst}
use Rattle.std.specs.List.{All}
use Rattle.std.proofs.lemmas.List.{take_all}
use Rattle.std.proofs.lemmas.List.Elements.{All-more}
use Rattle.lf_rules.specs.declared.event.Record.{Record}
use Rattle.lf_rules.specs.Fits.{Fits}
use Rattle.log_tests.proofs.rechecks.log_is_sound.Goals as goal

pub loop-item-preserved : goal.loop-item-preserved
loop-item-preserved c = record {
  fits = All-more (Fits c.args.shape.now) c.args.records.now c.loop-item.item-index c.item-item.result
      c.loop-item-test.true c.loop-item.invariant.fits
      (subst (Fits c.args.shape.now) c.item-item.is (c.fits.ensures.0 c.if-not-fits.false));
  named = All-more (λ (r : Record). r.log ≡ c.args.log) c.args.records.now c.loop-item.item-index c.item-item.result
      c.loop-item-test.true c.loop-item.invariant.named
      (subst (λ (r : Record). r.log ≡ c.args.log) c.item-item.is (sym c.from.ensures ∙ c.if-from-log.false));
}

pub returns-clause-fits : goal.returns-clause-fits
returns-clause-fits c = λ t. subst (All (Fits c.args.shape.now))
    (take_all c.loop-item.item-index c.args.records.now c.loop-item-test.false) c.loop-item.invariant.fits

pub returns-clause-named : goal.returns-clause-named
returns-clause-named c = λ t. subst (All (λ (r : Record). r.log ≡ c.args.log))
    (take_all c.loop-item.item-index c.args.records.now c.loop-item-test.false) c.loop-item.invariant.named
