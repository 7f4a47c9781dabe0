use Rattle.std.proofs.Common.{◌≡◌, ◌/◌, refl, sym, ap, rules, ◌∙◌}
use Rattle.lf_rules.specs.State.{update}
use Rattle.bank_cells.specs.Cells.{first_at, second_at}
use Rattle.bank_cells.specs.declared.known.Fetch.TheVariants as fetch
use Rattle.bank_cells.specs.declared.known.First.TheVariants as level1
use Rattle.bank_cells.specs.declared.known.Second.TheVariants as level2
use Rattle.bank_events.specs.Known.{register_of}
use Rattle.bank_events.proofs.HeldIn.{none_fetches}
use Rattle.bank_events.proofs.Placed.{placed2}
use Rattle.bank_events.proofs.SameKnown.{known_is}
use Rattle.bank_events.proofs.bank.Bank.second_primary.Goals as goal

pub second_primary_rule-requires-clause-apart : goal.second_primary_rule-requires-clause-apart
second_primary_rule-requires-clause-apart g c =
    let steady = rw (← c.self.view_is) at c.requires in
    let asked = rw (← c.self.view_is) at c.in-Some.ensures.some in
    none_fetches _ steady c.second_of-second.result level2.Absent
    (c.in-Absent.ensures c.args.block asked.0
    ∙ (λ i. second_at c.self.inside.cells (c.args.block / c.self.invariant.framed.factor i))
    ∙ ap (second_at c.self.inside.cells) (sym c.second_of-second.ensures)) refl

pub set_first-requires : goal.set_first-requires
set_first-requires g c =
    let asked = rw (← c.self.view_is) at c.in-Some.ensures.some in
    record { block = c.args.block; found = (λ i. c.set_second_of.ensures.placed.cells i c.args.block) ∙ asked.0 }

pub returns : goal.returns
returns g c =
    let block = c.args.block in
    let asker = register_of (first_at c.self.inside.cells block) in
    let asked = rw (← c.self.view_is) at c.in-Some.ensures.some in
    let position = rw (← c.self.view_is) at c.fetching-target.ensures.position in
    let asks : c.in-Some.asked.register ≡ asker = search rules in
    let cell = (λ i. c.set_second_of.ensures.placed.cells i block) ∙ asked.0 in
    let firsts = c.set_first.ensures.first block cell
    ∙ (λ i. update (c.set_second_of.ensures.first i) block (level1.InFlight (asks i) fetch.Missed)) in
    let seconds = c.set_first.ensures.second ∙ c.set_second_of.ensures.second block asked.0
    ∙ (λ i. update (second_at c.self.inside.cells) (block / c.self.invariant.framed.factor i)
    (level2.InFlight c.args.register)) in
    rw (← c.self.view_is) (λ log waiting regs2 wait held. record {
      kept = search rules;
      shape = refl;
      waiting = record {
        level1 = wait.level1;
        level2 = placed2 c.self.inside.shape (g.O2.Organisation.seen c.self.inside.regs2)
            (g.O2.Organisation.seen c.place.new.file) regs2 c.args.register
            c.second_of-second.result block asker c.fetching-target.result wait.level2 c.place.ensures
            position (c.fetching-target.ensures.destination ∙ asks) c.second_of-second.ensures;
      };
      known = known_is _ _ refl refl (c.set_first.ensures.memory ∙ c.set_second_of.ensures.memory) firsts
          (c.set_first.ensures.written ∙ c.set_second_of.ensures.written)
          (c.set_first.ensures.dirty ∙ c.set_second_of.ensures.dirty) seconds refl refl refl refl;
    })
