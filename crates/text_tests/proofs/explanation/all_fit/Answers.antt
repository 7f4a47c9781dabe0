use Rattle.std.proofs.Common.{List, [], ◌∷◌, ◌++◌, take, sym, ap, ◌∙◌, subst}
use Rattle.std.specs.List.{AllByRecursion}
use Rattle.std.proofs.lemmas.List.{take_more}
use Rattle.lf_rules.specs.declared.event.Record.{Record}
use Rattle.lf_rules.specs.Fits.{Fits}
use Rattle.text_tests.proofs.explanation.all_fit.Goals as goal

all_push : {X : Type 0} (P : X → Type 0) (xs : List X) (x : X) → AllByRecursion P xs → P x →
    AllByRecursion P (xs ++ x ∷ [])
all_push P [] x all p = (p, tt)
all_push P (y ∷ xs) x all p = (all.0, all_push P xs x all.1 p)

pub loop-item-preserved : goal.loop-item-preserved
loop-item-preserved c =
    let rs = c.args.records.now in
    let i = c.loop-item.item-index in
    let item = c.item-item.result in
    subst (λ (xs : List Record). AllByRecursion (Fits c.args.shape.now) xs)
    (ap (λ x. take i rs ++ x ∷ []) c.item-item.is ∙ sym (take_more rs i item c.loop-item-test.true))
    (all_push (Fits c.args.shape.now) (take i rs) item c.loop-item.invariant (c.fits.ensures.0 c.if-not-fits.false))
