use Rattle.std.proofs.Common.{◌+◌, List, [], take, get_or, sym, ap, ◌∙◌, arith}
use Rattle.std.proofs.lemmas.List.{length-take}
use Rattle.lf_rules.specs.declared.event.Record.{Record}
use Rattle.lf_logs.proofs.Joined.{of_bank-le}
use Rattle.lf_logs.proofs.Tallying.{one_more_own, one_more_other}
use Rattle.lf_logs.proofs.order.count_of_bank.Goals as goal
use Rattle.lf_logs.proofs.order.count_of_bank.Goals.{then-named-bank, else-named-bank}

pub overflow_add-count : goal.overflow_add-count
overflow_add-count g c =
    let rs : List Record = get_or (g.L.LogRecords.lists c.args.logs.now) c.args.log [] in
    omega (
      arith,
      c.loop-at.invariant,
      of_bank-le c.args.bank (take c.loop-at.at rs),
      length-take c.loop-at.at rs,
      c.requires.short,
    )

pub loop-at-preserved : goal.loop-at-preserved
loop-at-preserved g c =
    let rs : List Record = get_or (g.L.LogRecords.lists c.args.logs.now) c.args.log [] in
    let found = c.entry-named.ensures in
    elim c.if-named-bank.branch [
      | then-named-bank w ↦
          w.count-is ∙ ap (λ n. n + 1) c.loop-at.invariant
          ∙ sym (one_more_own c.args.bank rs c.loop-at.at found.item found.there
          (found.of_bank ∙ w.if-named-bank.true))
      | else-named-bank w ↦
          w.count-is ∙ c.loop-at.invariant
          ∙ sym (one_more_other c.args.bank rs c.loop-at.at found.item found.there
          (λ own. w.if-named-bank.false (sym found.of_bank ∙ own)))
    ]
