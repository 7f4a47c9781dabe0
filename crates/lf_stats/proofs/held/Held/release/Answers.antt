use Rattle.std.proofs.Common.{rules, ◌≡◌, ℕ, [], Option, None, sym, ap, ◌∙◌, subst}
use Rattle.std.specs.Global.{Vec}
use Rattle.std.specs.BTreeMap.{get}
use Rattle.std.specs.Ordering.{nat_cmp}
use Rattle.lf_stats.specs.Standing.{Holding, IsHeld, registers_of, held_for, items_in}
use Rattle.lf_stats.proofs.Distinct.{others_of}
use Rattle.lf_stats.proofs.Holds.{at_other, released, times_split}
use Rattle.lf_stats.proofs.held.Held.release.Goals as goal

pub returns-in-Some : goal.returns-in-Some
returns-in-Some c holds held =
    let told = subst (λ (h : Holding). IsHeld h holds) (sym c.self.view_is) held in
    let block = c.args.block in
    let before : ℕ → Option (Vec ℕ) = get nat_cmp c.self.inside.by_block in
    let after : ℕ → Option (Vec ℕ) = get nat_cmp c.remove.new.self in
    let updates = c.in-Some.ensures.updates in
    let mine : c.as_slice.result.now ≡ held_for block holds =
    c.as_slice.ensures.value ∙ ap items_in c.in-Some.ensures.value ∙ told.blocks block in
    record {
      blocks = released block holds before after (λ q other. updates.2 q (at_other block q other)) updates.1
          told.blocks;
      times = c.take_all.ensures (registers_of (others_of block holds))
          (times_split c.self.inside.times block holds c.as_slice.result.now mine told.times);
    }

pub returns-in_default : goal.returns-in_default
returns-in_default c holds held =
    let told = subst (λ (h : Holding). IsHeld h holds) (sym c.self.view_is) held in
    let block = c.args.block in
    let before : ℕ → Option (Vec ℕ) = get nat_cmp c.self.inside.by_block in
    let after : ℕ → Option (Vec ℕ) = get nat_cmp c.remove.new.self in
    let updates = c.remove.ensures.updates in
    let gone : before block ≡ None = search rules in
    let mine : [] ≡ held_for block holds = sym (ap items_in gone) ∙ told.blocks block in
    record {
      blocks = released block holds before after (λ q other. updates.2 q (at_other block q other)) updates.1
          told.blocks;
      times = times_split c.self.inside.times block holds [] mine told.times;
    }
