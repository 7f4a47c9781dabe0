use Rattle.std.proofs.Common.{◌≡◌, ℕ, ◌<◌, length, List, get_or, ap, ◌∙◌, arith}
use Rattle.wave_draw.proofs.Turns.{none_named, none_came, one_came}
use Rattle.wave_draw.proofs.order.Order.take_due.Goals as goal

pub returns-in_err-log-clause-due : goal.returns-in_err-log-clause-due
returns-in_err-log-clause-due c records are =
    rw c.from_residual.ensures (none_named c.args.self.now records
    (omega (arith, c.in_err-log.ensures.lookup, c.deref.ensures.len)) are)

pub returns-in_err-item-clause-due : goal.returns-in_err-item-clause-due
returns-in_err-item-clause-due c records are =
    let log = c.in_ok-log.field-0.now in
    let within : c.args.self.now.next < length c.args.self.now.logs.items =
    omega (arith, c.in_ok-log.ensures.lookup, c.deref.ensures.len) in
    let is : log ≡ get_or c.args.self.now.logs.items c.args.self.now.next log =
    c.in_ok-log.ensures.lookup.1 ∙ ap (λ (l : List ℕ). get_or l c.args.self.now.next log) c.deref.ensures.value in
    rw c.from_residual-in_err-item.ensures (none_came c.args.self.now records log within is c.take.new.self
    (c.in_err-item.ensures.rest records are) (c.in_err-item.ensures.first records are))

pub returns-clause-due : goal.returns-clause-due
returns-clause-due c records are =
    let log = c.in_ok-log.field-0.now in
    let within : c.args.self.now.next < length c.args.self.now.logs.items =
    omega (arith, c.in_ok-log.ensures.lookup, c.deref.ensures.len) in
    let is : log ≡ get_or c.args.self.now.logs.items c.args.self.now.next log =
    c.in_ok-log.ensures.lookup.1 ∙ ap (λ (l : List ℕ). get_or l c.args.self.now.next log) c.deref.ensures.value in
    one_came c.args.self.now records log within is c.take.new.self (c.in_ok-item.ensures.rest records are)
    c.in_ok-item.item _ (c.in_ok-item.ensures.first records are)
