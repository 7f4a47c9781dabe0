use Rattle.std.proofs.Common.{◌-◌, ap, refl, sym, ◌∙◌, eq-eqb}
use Rattle.std.specs.Prelude.{slice_index}
use Rattle.lf_rules.specs.State.{update}
use Rattle.lf_rules.specs.declared.rule.Rule.TheVariants.{EvictAbsent, EvictMask, EvictData}
use Rattle.bank_state.specs.Queues.{queue_at}
use Rattle.bank_events.specs.Known.{is_present}
use Rattle.bank_events.proofs.Three.{third_fails, three_hold}
use Rattle.bank_events.proofs.bank.Bank.evict1.Goals as goal

pub returns-then-not-carries : goal.returns-then-not-carries
returns-then-not-carries g c = rw (← c.self.view_is) (λ log waiting regs2 alike held.
    let there = sym c.in-Some.ensures in (
      third_fails EvictAbsent EvictMask EvictData _ _ _ (ap is_present (sym (c.in-Present.ensures c.args.block there)))
          (eq-eqb _ _ (c.if-mask-written.false ∙ c.written.ensures c.args.block there))
          (sym (c.if-not-carries.ensures c.args.block there)),
      refl,
    ))

pub returns : goal.returns
returns g c =
    let set_is = rw (← c.self.view_is) at c.set1-set.ensures.set in
    rw (← c.self.view_is) (λ log waiting regs2 alike held.
    let there = sym c.in-Some.ensures in
    let counts = slice_index c.self.inside.counts1.items in record {
      kept = three_hold EvictAbsent EvictMask EvictData _ _ _
          (ap is_present (sym (c.in-Present.ensures c.args.block there)))
          (eq-eqb _ _ (c.if-mask-written.false ∙ c.written.ensures c.args.block there))
          (sym (c.if-not-carries.ensures c.args.block there));
      shape = refl;
      waiting = record { level1 = alike.level1; level2 = alike.level2 };
      known = λ i. record {
        queue = queue_at c.self.inside.queues.items;
        ready = c.self.inside.ready.items;
        memory = c.evict.ensures.memory i;
        first = c.evict.ensures.first c.args.block there i;
        written = c.evict.ensures.written c.args.block there i;
        dirty = c.evict.ensures.dirty c.args.block there i;
        second = c.evict.ensures.second i;
        counts1 = (c.take_line.ensures.counts
            ∙ ap (λ n. update counts n (counts n - 1)) set_is) i;
        counts2 = slice_index c.self.inside.counts2.items;
        waiting = waiting;
        regs2 = regs2;
      };
    })
