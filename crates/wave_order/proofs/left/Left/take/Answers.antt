use Rattle.std.proofs.Common.{◌≡◌, ◌∷◌, ◌+◌, ◌<◌, rules, ap₂, refl, slice_set, ℕ}
use Rattle.wave_order.proofs.Entries.{fewer_queued}
use Rattle.wave_order.proofs.Going.{comes_first}
use Rattle.wave_order.proofs.left.Left.take.Goals as goal

pub returns-clause-first : goal.returns-clause-first
returns-clause-first c gone records has =
    let left = c.args.self.now in
    let at = c.in_ok-at.at in
    let first = c.in_ok-at.ensures in
    let same : c.in_ok-log.log ≡ at = search rules in
    let fits : c.in_ok-bank.bank < 256 = search rules in
    comes_first left gone records has at c.in_ok-log.log c.in_ok-bank.bank c.in_ok-bank.number same first.0
    first.1 c.args.times.now (first.2 has.few) c.in_ok-get_mut.field-0.now c.pop_front.new.self c.in_ok-get_mut.ensures.value
    c.in_ok-bank.ensures.items c.pop_front.ensures.rest fits _ refl
    (ap₂ (λ (b n : ℕ). slice_set left.next b (n + 1)) c.from-2.ensures c.from.ensures) c.take.ensures

pub returns-clause-fewer : goal.returns-clause-fewer
returns-clause-fewer c =
    fewer_queued c.args.self.now.logs.items c.in_ok-at.at c.in_ok-get_mut.field-0.now c.pop_front.new.self
    (c.in_ok-bank.bank, c.in_ok-bank.number) c.in_ok-get_mut.ensures.value c.in_ok-at.ensures.0
    c.in_ok-bank.ensures.items
