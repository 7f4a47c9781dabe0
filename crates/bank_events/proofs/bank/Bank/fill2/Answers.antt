use Rattle.std.proofs.Common.{ℕ, ◌*◌, ◌<◌, ◌∙◌, ap, sym, refl, subst}
use Rattle.bank_cells.specs.Cells.{first_at}
use Rattle.bank_events.specs.KnownAfter.{dirty_cleared}
use Rattle.bank_events.specs.KnownRules.{set2}
use Rattle.bank_events.specs.Wide.{supplied_by}
use Rattle.bank_events.proofs.Counted.{count_more}
use Rattle.bank_events.proofs.HeldIn.{one_fetches}
use Rattle.bank_events.proofs.Places.{factor_some}
use Rattle.bank_events.proofs.Placed.{released2}
use Rattle.bank_events.proofs.SameKnown.{known_is}
use Rattle.bank_events.proofs.Supplied.{supplied_told, place_below}
use Rattle.bank_events.proofs.bank.Bank.fill2.Goals as goal

pub returns-in-Err : goal.returns-in-Err
returns-in-Err g c = λ log waiting regs2 wait held. (c.in-Err.ensures.broken log waiting regs2, refl)

pub clean-requires-clause-there : goal.clean-requires-clause-there
clean-requires-clause-there g c =
    let place = rw (← c.self.view_is) at c.in-Ok.ensures.place in
    record { second = c.args.second; found = (λ i. c.set_second.ensures.placed.places i c.args.second) ∙ place }

pub supply-requires-clause-there : goal.supply-requires-clause-there
supply-requires-clause-there g c =
    let place = rw (← c.self.view_is) at c.in-Ok.ensures.place in
    record {
      second = c.args.second;
      found = (λ i. c.clean.ensures.placed.places i c.args.second)
          ∙ (λ i. c.set_second.ensures.placed.places i c.args.second) ∙ place;
    }

pub supply-requires-clause-inside : goal.supply-requires-clause-inside
supply-requires-clause-inside g c =
    let steady = rw (← c.self.view_is) at c.requires.steady in
    let shape = c.self.inside.shape in
    let factor = c.clean.ensures.placed.factor ∙ c.set_second.ensures.placed.factor ∙ c.self.invariant.framed.factor in
    λ i t lt is. subst (λ n. t.1.position < n) (sym factor)
    (place_below shape c.args.second (factor_some shape.factor c.self.invariant.framed.in_range.factor)
    (g.O2.Organisation.seen c.self.inside.regs2).held steady.now_regs2 steady.alike.level2 c.as_slice.result.now
    (c.as_slice.ensures.value ∙ c.release_of.ensures.targets) i t lt is)

pub release_of-requires : goal.release_of-requires
release_of-requires g c =
    let steady = rw (← c.self.view_is) at c.requires.steady in
    let flies = rw (← c.self.view_is) at c.in-Ok.ensures.flies in
    one_fetches _ steady c.args.second _ (sym flies) refl

pub returns : goal.returns
returns g c =
    let shape = c.self.inside.shape in
    let second = c.args.second in
    let kept = rw (← c.self.view_is) at c.in-Ok.ensures.kept in
    let place = rw (← c.self.view_is) at c.in-Ok.ensures.place in
    let set = rw (← c.self.view_is) at c.in-Ok.ensures.set in
    let inside = rw (← c.self.view_is) at c.in-Ok.ensures.inside in
    let there = (λ i. c.set_second.ensures.placed.places i second) ∙ place in
    let now = (λ i. c.clean.ensures.placed.places i second) ∙ there in
    let factor = c.clean.ensures.placed.factor ∙ c.set_second.ensures.placed.factor ∙ c.self.invariant.framed.factor in
    let released = c.as_slice.ensures.value ∙ c.release_of.ensures.targets in
    let memory = c.supply.ensures.memory ∙ c.clean.ensures.memory ∙ c.set_second.ensures.memory in
    let firsts = c.supply.ensures.first second now
    ∙ (λ i. supplied_by (second * factor i) ((c.clean.ensures.first ∙ c.set_second.ensures.first) i) (released i)) in
    let written = c.supply.ensures.written ∙ c.clean.ensures.written ∙ c.set_second.ensures.written in
    let dirty = c.supply.ensures.dirty ∙ c.clean.ensures.dirty second there
    ∙ ap (λ (d : ℕ → ℕ). dirty_cleared shape d second) c.set_second.ensures.dirty in
    let seconds = c.supply.ensures.second ∙ c.clean.ensures.second ∙ c.set_second.ensures.second second place in
    let counts = count_more c.self.inside.counts2.items c.in-Ok.placed.set (set2 shape second) c.index_mut.result.now
    inside set c.index_mut.ensures.value in
    rw (← c.self.view_is) (λ log waiting regs2 wait held. record {
      kept = kept log waiting regs2;
      shape = refl;
      waiting = record {
        level1 = wait.level1;
        level2 = released2 shape (g.O2.Organisation.seen c.self.inside.regs2)
            (g.O2.Organisation.seen c.release_of.new.file) regs2 second wait.level2 c.release_of.ensures.others;
      };
      known = known_is _ _ refl refl memory
          (firsts ∙ supplied_told shape second (g.O2.Organisation.seen c.self.inside.regs2).held regs2
          (first_at c.self.inside.cells) wait.level2 held.home)
          written dirty seconds refl counts refl refl;
    })
