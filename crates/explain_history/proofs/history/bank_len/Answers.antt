use Rattle.std.proofs.Common.{◌≡◌, ◌<◌, true, false, ◌==◌, length, get_or, sym, ◌∙◌, arith, eq-eqb}
use Rattle.std.proofs.lemmas.Bool.{eqb-true, false_from_ne_true}
use Rattle.explain_history.proofs.Records.{no_record}
use Rattle.explain_history.proofs.Counted.{count_from}
use Rattle.explain_history.proofs.history.bank_len.Goals as goal
use Rattle.explain_history.proofs.history.bank_len.Goals.{then-bank, else-bank}

pub loop-place-preserved : goal.loop-place-preserved
loop-place-preserved c =
    let rs = c.args.records.now.records in
    let bank = c.args.bank in
    let k = c.loop-place.place in
    let lt : k < length rs = omega (arith, c.loop-place-test.true, c.len-place-end.ensures) in
    let bank_is : c.bank.result ≡ (get_or rs k no_record).bank = c.bank.ensures no_record in
    elim c.if-bank.branch [
      | then-bank w ↦
          let is : ((get_or rs k no_record).bank == bank) ≡ true = eq-eqb _ bank (sym bank_is ∙ w.if-bank.true) in
          record {
            few = omega (arith, w.len-is, c.loop-place.invariant.few);
            counted = omega (arith, w.len-is, c.loop-place.invariant.counted, count_from bank rs k true lt is);
          }
      | else-bank w ↦
          let isnt : ((get_or rs k no_record).bank == bank) ≡ false =
          false_from_ne_true _ (λ t. w.if-bank.false (bank_is ∙ eqb-true _ bank t)) in
          record {
            few = omega (arith, w.len-is, c.loop-place.invariant.few);
            counted = omega (arith, w.len-is, c.loop-place.invariant.counted, count_from bank rs k false lt isnt);
          }
    ]
