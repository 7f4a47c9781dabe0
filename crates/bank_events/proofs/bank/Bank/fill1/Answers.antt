use Rattle.std.proofs.Common.{◌<◌, List, ◌++◌, map, ap, refl, sym, subst, ◌∙◌, rules}
use Rattle.std.proofs.Common.{◌+◌}
use Rattle.std.proofs.lemmas.Bool.{lt-ltb}
use Rattle.std.specs.Prelude.{slice_index}
use Rattle.lf_rules.specs.Registers.{released, targets_of}
use Rattle.lf_rules.specs.State.{update, Ready}
use Rattle.lf_rules.specs.Table.{reply_of}
use Rattle.lf_rules.specs.declared.rule.Rule.TheVariants.{NotSupplied, SetFull, FillData}
use Rattle.bank_state.specs.Queues.{queue_at}
use Rattle.bank_events.specs.Known.{is_supplied, is_fetch_supplied}
use Rattle.bank_events.proofs.HeldIn.{one_holds}
use Rattle.bank_events.proofs.Placed.{released1}
use Rattle.bank_events.proofs.Three.{third_fails, three_hold}
use Rattle.bank_events.proofs.bank.Bank.fill1.Goals as goal

pub add_replies-requires-clause-told : goal.add_replies-requires-clause-told
add_replies-requires-clause-told g c =
    let steady = rw (← c.self.view_is) at c.requires.steady in (
      (g.O1.Organisation.seen c.self.inside.waiting).held,
      steady.now_waiting,
      c.args.block,
      steady.alike.level1,
      c.as_slice.ensures.value ∙ c.release_of.ensures.targets,
    )

pub release_of-requires : goal.release_of-requires
release_of-requires g c =
    let steady = rw (← c.self.view_is) at c.requires.steady in
    one_holds _ steady c.args.block _
    (c.in-InFlight-default-Supplied.ensures c.args.block (sym c.in-Some.ensures)) refl

pub returns-then-not-agrees : goal.returns-then-not-agrees
returns-then-not-agrees g c =
    let whole = rw (← c.self.view_is) at c.requires.whole in
    let set_is = rw (← c.self.view_is) at c.set1-set.ensures.set in
    rw (← c.self.view_is) (λ log waiting regs2 alike held.
    let there = sym c.in-Some.ensures in
    let counts = slice_index c.self.inside.counts1.items in
    let supplied = ap is_supplied (sym (c.in-InFlight-default-Supplied.ensures c.args.block there))
    ∙ ap is_fetch_supplied c.in-InFlight-default-Supplied.fetch-is in
    let counted = c.lines_in.ensures ∙ ap counts set_is in
    let room = lt-ltb _ _ (subst (λ n. n < c.self.inside.shape.level1.ways) counted c.if-lines_in-self.false) in
    let agrees = c.if-not-agrees.ensures c.self.inside.shape c.args.block there whole in (
      third_fails NotSupplied SetFull FillData _ _ _ supplied room (sym agrees),
      refl,
    ))

pub returns-then-is_err : goal.returns-then-is_err
returns-then-is_err g c =
    let whole = rw (← c.self.view_is) at c.requires.whole in
    let set_is = rw (← c.self.view_is) at c.set1-set.ensures.set in
    rw (← c.self.view_is) (λ log waiting regs2 alike held.
    let there = sym c.in-Some.ensures in
    let counts = slice_index c.self.inside.counts1.items in
    let supplied = ap is_supplied (sym (c.in-InFlight-default-Supplied.ensures c.args.block there))
    ∙ ap is_fetch_supplied c.in-InFlight-default-Supplied.fetch-is in
    let counted = c.lines_in.ensures ∙ ap counts set_is in
    let room = lt-ltb _ _ (subst (λ n. n < c.self.inside.shape.level1.ways) counted c.if-lines_in-self.false) in
    let agrees = c.if-not-agrees.ensures c.self.inside.shape c.args.block there whole in (
      three_hold NotSupplied SetFull FillData _ _ _ supplied room (sym agrees),
      search (rules, c.reserve.ensures.items),
    ))

pub returns : goal.returns
returns g c =
    let whole = rw (← c.self.view_is) at c.requires.whole in
    let set_is = rw (← c.self.view_is) at c.set1-set.ensures.set in
    rw (← c.self.view_is) (λ log waiting regs2 alike held.
    let there = sym c.in-Some.ensures in
    let counts = slice_index c.self.inside.counts1.items in
    let supplied = ap is_supplied (sym (c.in-InFlight-default-Supplied.ensures c.args.block there))
    ∙ ap is_fetch_supplied c.in-InFlight-default-Supplied.fetch-is in
    let counted = c.lines_in.ensures ∙ ap counts set_is in
    let room = lt-ltb _ _ (subst (λ n. n < c.self.inside.shape.level1.ways) counted c.if-lines_in-self.false) in
    let agrees = c.if-not-agrees.ensures c.self.inside.shape c.args.block there whole in
    let replies = c.add_replies.ensures (g.O1.Organisation.seen c.self.inside.waiting).held waiting c.args.block
    alike.level1 (c.as_slice.ensures.value ∙ c.release_of.ensures.targets)
    ∙ ap (λ (rs : List Ready). rs ++ map reply_of (targets_of waiting c.args.block)) c.reserve.ensures.items in record {
      kept = three_hold NotSupplied SetFull FillData _ _ _ supplied room (sym agrees);
      shape = refl;
      waiting = record {
        level1 = released1 c.self.inside.shape (g.O1.Organisation.seen c.self.inside.waiting)
            (g.O1.Organisation.seen c.release_of.new.file) waiting c.args.block alike.level1
            c.release_of.ensures.others;
        level2 = alike.level2;
      };
      known = λ i. record {
        queue = queue_at c.self.inside.queues.items;
        ready = replies i;
        memory = c.set_first.ensures.memory i;
        first = c.set_first.ensures.first c.args.block there i;
        written = c.set_first.ensures.written i;
        dirty = c.set_first.ensures.dirty i;
        second = c.set_first.ensures.second i;
        counts1 = (c.add_line.ensures.counts ∙ ap (λ n. update counts n (counts n + 1)) set_is) i;
        counts2 = slice_index c.self.inside.counts2.items;
        waiting = released waiting c.args.block;
        regs2 = regs2;
      };
    })
