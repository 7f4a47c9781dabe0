use Rattle.std.proofs.Common.{◌≡◌, ◌+◌, Some, false, true, refl, sym, subst, ◌∙◌, rules}
use Rattle.wave_order.specs.declared.left.Turn.{Turn}
use Rattle.wave_order.proofs.Earliest.{IsBest, best_skips, best_more, best_of_all, none_of_all}
use Rattle.wave_order.proofs.left.Left.first.Goals as goal

pub loop-log-preserved-then-not-can_come : goal.loop-log-preserved-then-not-can_come
loop-log-preserved-then-not-can_come c =
    let isnt : c.can_come.result ≡ false = search rules in
    best_skips c.args.times.now c.args.self.now c.loop-log.log c.loop-log.first (sym c.can_come.ensures ∙ isnt)
    c.loop-log.invariant

pub loop-log-preserved : goal.loop-log-preserved
loop-log-preserved c =
    let can : c.can_come.result ≡ true = search rules in
    let turn : Turn = record { rank = c.rank-rank.result; log = c.loop-log.log } in
    subst (λ (t : Turn). IsBest c.args.times.now c.args.self.now (c.loop-log.log + 1) (Some t))
    (sym c.or_earlier.ensures)
    (best_more c.args.times.now c.args.self.now c.loop-log.log turn refl (sym c.can_come.ensures ∙ can)
    c.rank-rank.ensures c.loop-log.first c.loop-log.invariant)
