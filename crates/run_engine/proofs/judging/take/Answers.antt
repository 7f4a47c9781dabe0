use Rattle.std.proofs.Common.{◌≡◌, Ok, sym, ap, ◌∙◌, refl, rules}
use Rattle.lf_verdict.specs.declared.session.asked.Asked.{Asked}
use Rattle.run_engine.proofs.GatheringLemmas.{not_stopped, enough_by, enough_unless}
use Rattle.run_engine.proofs.judging.take.Goals as goal

pub returns-in-Ok-false-clause-enough : goal.returns-in-Ok-false-clause-enough
returns-in-Ok-false-clause-enough g c =
    let fine : c.feed-answer.result ≡ Ok tt = c.in-Ok-false.ensures.fine (search rules) in
    let told = c.in-Ok-false.ensures.told c.feed-answer.new.self.fed c.feed-answer.ensures.fine
    c.feed-answer.ensures.fault in
    let broken = c.is_broken.ensures in
    let watched = ap (λ (asked : Asked). asked.watched) c.feed-answer.ensures.asked in
    rw broken.fed (rw (sym c.feed-answer.ensures.shape) (enough_unless _ _ _ _
    (λ h. let bad = told.1 h in absurd (cc)) (broken.broken (not_stopped _ _ (sym fine ∙ c.feed-answer.ensures.told))
    (λ early. watched ∙ c.requires early))))

pub returns-in-Ok-true-clause-enough : goal.returns-in-Ok-true-clause-enough
returns-in-Ok-true-clause-enough g c =
    let told = c.in-Ok-true.ensures.told c.feed-answer.new.self.fed c.feed-answer.ensures.fine
    c.feed-answer.ensures.fault in
    (λ _. enough_by _ _ _ (told.0 (search rules)), λ _. refl)
