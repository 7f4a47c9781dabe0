use Rattle.std.proofs.Common.{ap, sym, ◌∙◌, inl, inr, arith}
use Rattle.std.proofs.lemmas.Bool.{cases_eq}
use Rattle.model_plain.specs.Plain.{busy_of}
use Rattle.model_plain.proofs.BusyTags.{all_free, one_taken, none_if}
use Rattle.model_plain.proofs.busy.none_busy.Goals as goal

pub loop-tag-init : goal.loop-tag-init
loop-tag-init c = λ k lt. absurd (omega (arith, lt))

pub loop-tag-preserved : goal.loop-tag-preserved
loop-tag-preserved c = λ k lt.
    (elim (cases_eq k c.loop-tag.tag) [
      | inl same ↦ ap (busy_of c.args.busy.now c.args.port) same
          ∙ none_if (busy_of c.args.busy.now c.args.port c.loop-tag.tag) (sym c.if-not-is_free.ensures)
      | inr apart ↦ c.loop-tag.invariant k (omega (arith, lt, apart))
    ])

pub returns-then-not-is_free : goal.returns-then-not-is_free
returns-then-not-is_free c = one_taken c.args.tags c.args.busy.now c.args.port c.loop-tag.tag c.loop-tag-test.true
    (c.if-not-is_free.ensures)

pub returns : goal.returns
returns c = all_free c.args.tags c.args.busy.now c.args.port
    (λ k lt. c.loop-tag.invariant k (omega (arith, lt, c.loop-tag-test.false)))
