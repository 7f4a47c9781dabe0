use Rattle.std.proofs.Common.{◌≡◌, ◌+◌, is_some, sym, ap, ◌∙◌, ⊎_elim, arith}
use Rattle.std.proofs.lemmas.Bool.{cases_eq}
use Rattle.lf_logs.specs.EarlyRecords.{kept_at}
use Rattle.lf_logs.specs.Reordering.{Reordering, early_at}
use Rattle.lf_logs.proofs.Reordered.{HasOrdered-next}
use Rattle.lf_logs.proofs.reorder.Reorder.drop_next.Goals as goal

pub invariant_of-self : goal.invariant_of-self
invariant_of-self c =
    let was = c.self.invariant.1 in
    let drop = c.drop.ensures in (
      omega (arith, c.if-self-from.false, c.from.ensures),
      record {
        above = λ m there. ⊎_elim
            (λ (own : m ≡ c.self.inside.next).
            let no = ap (λ n. is_some (kept_at c.drop.new.self n)) own ∙ ap is_some drop.gone in absurd (cc))
            (λ (other : m ≡ c.self.inside.next → ⊥). was.above m (sym (ap is_some (drop.others m other)) ∙ there))
            (cases_eq m c.self.inside.next);
        waits = λ below. ap is_some (drop.others c.self.inside.greatest (λ e. omega (arith, below, e)))
            ∙ was.waits (omega (arith, below));
      },
    )

pub returns-clause-given : goal.returns-clause-given
returns-clause-given c put gave item has first =
    HasOrdered-next c.args.self.now put gave has item _ first (ap (λ (o : Reordering). o.next + 1) c.self.view_is)
    (ap (λ (o : Reordering). o.double) c.self.view_is)
    (λ k other. c.drop.ensures.others k (λ e. other (e ∙ ap (λ (o : Reordering). o.next) c.self.view_is))
    ∙ ap (λ (o : Reordering). early_at o k) c.self.view_is)
