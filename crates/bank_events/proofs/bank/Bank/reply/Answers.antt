use Rattle.std.proofs.Common.{◌≡◌, ◌∙◌, refl, rules}
use Rattle.lf_rules.specs.declared.rule.Rule.TheVariants.{NotReady, ReplySize, ReplyData}
use Rattle.lf_rules.specs.Table.{without_ready}
use Rattle.bank_state.proofs.Finds.{none_ready, removed_at}
use Rattle.bank_events.proofs.ReplyRules.{size_breaks, bytes_break, reply_holds}
use Rattle.bank_events.proofs.Three.{first_fails}
use Rattle.bank_events.proofs.bank.Bank.reply.Goals as goal

pub returns-in_default : goal.returns-in_default
returns-in_default g c = rw (← c.self.view_is) (λ waiting regs2 alike held. (
  first_fails NotReady ReplySize ReplyData _ _ _ (none_ready c.self.inside.ready.items c.args.log c.args.tag
      (rw c.deref.ensures.value at c.in_default.ensures)),
  refl,
))

pub returns-then-from-value : goal.returns-then-from-value
returns-then-from-value g c = rw (← c.self.view_is) (λ waiting regs2 alike held. (
  size_breaks c.self.inside.ready.items c.args.log c.args.tag c.in-Some.at c.index.result.now
      (rw c.deref.ensures.value at c.in-Some.ensures) c.index.ensures c.args.size c.from.result c.args.bytes.now
      c.value-value.result.now c.value-value.ensures c.from.ensures c.if-from-value.true,
  refl,
))

pub returns-then-ne : goal.returns-then-ne
returns-then-ne g c = rw (← c.self.view_is) (λ waiting regs2 alike held. (
  bytes_break c.self.inside.ready.items c.args.log c.args.tag c.in-Some.at c.index.result.now
      (rw c.deref.ensures.value at c.in-Some.ensures) c.index.ensures c.args.size c.from.result c.args.bytes.now
      c.value-value.result.now c.value-value.ensures c.from.ensures c.if-from-value.false
      c.if-ne.ensures,
  refl,
))

pub returns : goal.returns
returns g c =
    let left : c.remove.new.self.items ≡ without_ready c.self.inside.ready.items c.args.log c.args.tag =
    c.remove.ensures.items ∙ removed_at c.self.inside.ready.items c.args.log c.args.tag c.in-Some.at
    (rw c.deref.ensures.value at c.in-Some.ensures) in
    rw (← c.self.view_is) (λ waiting regs2 alike held. record {
      kept = reply_holds c.self.inside.ready.items c.args.log c.args.tag c.in-Some.at c.index.result.now
          (rw c.deref.ensures.value at c.in-Some.ensures) c.index.ensures c.args.size c.from.result
          c.args.bytes.now c.value-value.result.now c.value-value.ensures c.from.ensures c.if-from-value.false
          c.if-ne.ensures;
      shape = refl;
      waiting = record { level1 = alike.level1; level2 = alike.level2 };
      known = search (rules, left);
    })
