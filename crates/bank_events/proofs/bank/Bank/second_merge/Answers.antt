use Rattle.std.proofs.Common.{◌≡◌, ◌/◌, refl, sym, ap, ◌∙◌, rules}
use Rattle.bank_cells.specs.Cells.{first_at, second_at}
use Rattle.bank_events.specs.Known.{register_of}
use Rattle.bank_events.proofs.HeldIn.{one_fetches}
use Rattle.bank_events.proofs.Placed.{placed2}
use Rattle.bank_events.proofs.bank.Bank.second_merge.Goals as goal

pub second_merge_rule-requires-clause-holder : goal.second_merge_rule-requires-clause-holder
second_merge_rule-requires-clause-holder g c =
    let steady = rw (← c.self.view_is) at c.requires in
    let asked = rw (← c.self.view_is) at c.in-Some.ensures.some in
    one_fetches _ steady c.second_of-second.result _
    (c.in-InFlight.ensures c.args.block asked.0
    ∙ (λ i. second_at c.self.inside.cells (c.args.block / c.self.invariant.framed.factor i))
    ∙ ap (second_at c.self.inside.cells) (sym c.second_of-second.ensures)) refl

pub returns : goal.returns
returns g c =
    let asker = register_of (first_at c.self.inside.cells c.args.block) in
    let position = rw (← c.self.view_is) at c.fetching-target.ensures.position in
    let same : c.fetching-target.result.destination ≡ asker = search rules in
    rw (← c.self.view_is) (λ log waiting regs2 wait held. record {
      kept = search rules;
      shape = refl;
      waiting = record {
        level1 = wait.level1;
        level2 = placed2 c.self.inside.shape (g.O2.Organisation.seen c.self.inside.regs2)
            (g.O2.Organisation.seen c.place.new.file) regs2 c.args.register
            c.second_of-second.result c.args.block asker c.fetching-target.result wait.level2 c.place.ensures
            position same c.second_of-second.ensures;
      };
      known = search rules;
    })
