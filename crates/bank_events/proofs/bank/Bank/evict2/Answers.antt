use Rattle.std.proofs.Common.{refl}
use Rattle.bank_events.specs.KnownRules.{set2}
use Rattle.bank_events.proofs.Counted.{count_less}
use Rattle.bank_events.proofs.SameKnown.{known_is}
use Rattle.bank_events.proofs.bank.Bank.evict2.Goals as goal

pub returns-in-Err : goal.returns-in-Err
returns-in-Err g c = λ log waiting regs2 wait held. (c.in-Err.ensures.broken log waiting regs2, refl)

pub returns : goal.returns
returns g c =
    let shape = c.self.inside.shape in
    let second = c.args.second in
    let kept = rw (← c.self.view_is) at c.in-Ok.ensures.kept in
    let place = rw (← c.self.view_is) at c.in-Ok.ensures.place in
    let set = rw (← c.self.view_is) at c.in-Ok.ensures.set in
    let inside = rw (← c.self.view_is) at c.in-Ok.ensures.inside in
    let counts = count_less c.self.inside.counts2.items c.in-Ok.placed.set (set2 shape second) c.index.result.now
    c.saturating_sub.result inside set c.index.ensures c.saturating_sub.ensures in
    let changed = c.set_second.ensures in
    rw (← c.self.view_is) (λ log waiting regs2 wait held. record {
      kept = kept log waiting regs2;
      shape = refl;
      waiting = record { level1 = wait.level1; level2 = wait.level2 };
      known = known_is _ _ refl refl changed.memory changed.first changed.written changed.dirty
          (changed.second second place) refl counts refl refl;
    })
