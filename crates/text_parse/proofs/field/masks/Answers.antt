use Rattle.std.proofs.Common.{◌∙◌, sym, arith}
use Rattle.std.proofs.lemmas.Result.{err_from_is_err_and}
use Rattle.text_parse.specs.Fields.{masks_at}
use Rattle.text_parse.proofs.MaskLoop.{goes_on, fails, stops, is_done}
use Rattle.text_parse.proofs.field.masks.Goals as goal

pub returns-then-not-is_field : goal.returns-then-not-is_field
returns-then-not-is_field c =
    stops c.loop.masks.items 4 c.loop.counter c.loop.rest.now (masks_at 4 c.args.text.now) c.loop-test.true
    (sym c.is_field.ensures ∙ c.if-not-is_field.true) c.loop.invariant.0

pub returns-in_err-bits : goal.returns-in_err-bits
returns-in_err-bits c =
    let p = err_from_is_err_and c.from_residual.result c.from_residual.ensures.1 in
    rw (p.1, p.2) (fails c.in_err-bits.field-0.0 c.loop.masks.items 4 c.loop.counter c.loop.rest.now
    (masks_at 4 c.args.text.now)
    c.loop-test.true (sym c.is_field.ensures ∙ c.if-not-is_field.false) c.in_err-bits.ensures c.loop.invariant.0)

pub loop-preserved : goal.loop-preserved
loop-preserved c =
    let e = goes_on c.loop.masks.items 4 c.loop.counter c.loop.rest.now c.in_ok-bits.bits c.in_ok-bits.behind.now
    (masks_at 4 c.args.text.now)
    c.loop-test.true (sym c.is_field.ensures ∙ c.if-not-is_field.false) c.in_ok-bits.ensures c.loop.invariant.0 in
    (rw c.push.ensures.items e, omega arith)

pub returns : goal.returns
returns c =
    is_done c.loop.masks.items 4 c.loop.counter c.loop.rest.now (masks_at 4 c.args.text.now) c.loop-test.false
    c.loop.invariant.0
