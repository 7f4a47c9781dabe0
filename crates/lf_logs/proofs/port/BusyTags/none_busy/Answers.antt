use Rattle.std.proofs.Common.{length, get_or, None, inl, inr, sym, ap, ◌∙◌, arith}
use Rattle.std.proofs.lemmas.Bool.{cases_eq, cases_lt}
use Rattle.std.proofs.lemmas.List.{get_or_past}
use Rattle.lf_logs.proofs.NoneBusy.{all_free, one_taken, none_if, some_if}
use Rattle.lf_logs.proofs.port.BusyTags.none_busy.Goals as goal

pub loop-tag-preserved : goal.loop-tag-preserved
loop-tag-preserved c = λ k lt.
    (elim (cases_eq k c.loop-tag.tag) [
      | inl same ↦ ap (λ n. get_or c.args.self.now.owed_by n None) same
          ∙ none_if (get_or c.args.self.now.owed_by c.loop-tag.tag None) (sym c.if-is_some.ensures)
      | inr apart ↦ c.loop-tag.invariant k (omega (arith, lt, apart))
    ])

pub returns-then-is_some : goal.returns-then-is_some
returns-then-is_some c =
    one_taken c.args.tags (λ tag. get_or c.args.self.now.owed_by tag None) c.loop-tag.tag
    (omega (arith, c.loop-tag-test.true, c.min-named.ensures))
    (some_if (get_or c.args.self.now.owed_by c.loop-tag.tag None) (sym c.if-is_some.ensures))

pub returns : goal.returns
returns c = all_free c.args.tags (λ tag. get_or c.args.self.now.owed_by tag None)
    (λ k lt. elim (cases_lt k (length c.args.self.now.owed_by)) [
      | inl within ↦ c.loop-tag.invariant k (omega (arith, lt, within, c.loop-tag-test.false, c.min-named.ensures))
      | inr past ↦ get_or_past c.args.self.now.owed_by k None past
    ])
