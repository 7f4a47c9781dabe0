use Rattle.std.proofs.Common.{get_or, None, inl, inr, ap, ◌∙◌, arith, rules, ◌≡◌, is_some, false}
use Rattle.std.proofs.lemmas.Bool.{cases_eq}
use Rattle.lf_logs.proofs.NoneBusy.{none_if}
use Rattle.lf_logs.proofs.port.BusyTags.lowest_busy.Goals as goal

pub loop-tag-preserved : goal.loop-tag-preserved
loop-tag-preserved c = λ t lt.
    let here : is_some (get_or c.args.self.now.owed_by c.loop-tag.tag None) ≡ false = search rules in
    (elim (cases_eq t c.loop-tag.tag) [
      | inl same ↦ ap (λ n. get_or c.args.self.now.owed_by n None) same
          ∙ none_if (get_or c.args.self.now.owed_by c.loop-tag.tag None) here
      | inr apart ↦ c.loop-tag.invariant t (omega (arith, lt, apart))
    ])
