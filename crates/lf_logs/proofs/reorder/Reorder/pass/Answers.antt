use Rattle.std.proofs.Common.{◌≡◌, ◌+◌, ap, ◌∙◌, arith, rules}
use Rattle.lf_logs.specs.Reordering.{Reordering, early_at}
use Rattle.lf_logs.proofs.Reordered.{HasOrdered-pass}
use Rattle.lf_logs.proofs.reorder.Reorder.pass.Goals as goal

pub returns-clause-passed : goal.returns-clause-passed
returns-clause-passed c = λ _ put gave has absent.
    let turn : c.args.item.now.number ≡ c.self.inside.next = search rules in
    let own : c.args.item.now.number ≡ c.args.self.now.next = turn ∙ ap (λ (o : Reordering). o.next) c.self.view_is in (
      own ∙ has.next,
      HasOrdered-pass c.args.self.now put gave has c.args.item.now _ (omega arith) own absent
          (ap (λ (o : Reordering). o.next + 1) c.self.view_is) (ap (λ (o : Reordering). o.double) c.self.view_is)
          (λ k. ap (λ (o : Reordering). early_at o k) c.self.view_is),
    )
