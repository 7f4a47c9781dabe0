use Rattle.std.proofs.Common.{ℕ, ◌+◌, cond, max, refl, ap, ◌∙◌, arith}
use Rattle.std.proofs.lemmas.List.{length-map}
use Rattle.lf_rules.specs.declared.event.Event.{Event}
use Rattle.lf_stats.specs.declared.bank_count.BankCount.{BankCount}
use Rattle.lf_stats.specs.Standing.{registers_of}
use Rattle.lf_stats.specs.Statistics.{held_by, is_hit, is_merge, is_primary, is_stall}
use Rattle.lf_stats.specs.Tally.{head_of}
use Rattle.lf_stats.proofs.Distinct.{distinct-le-length}
use Rattle.lf_stats.proofs.Orders.{held_by_le}
use Rattle.lf_stats.proofs.Tallied.{is_counted}
use Rattle.lf_stats.proofs.bank_count.BankCount.take_view.Goals as goal

pub distinct-requires : goal.distinct-requires
distinct-requires c =
    let heads = head_of c.args.self.now.queues.items in
    let holds = held_by heads c.args.item.now.event c.requires.holds in
    let now = c.in_ok-change.ensures.held heads c.requires.holds (record { alike = λ port h. refl }) c.requires.held in
    record {
      few = omega (
        arith,
        now.times.count,
        distinct-le-length (registers_of holds),
        length-map holds (λ (h : ℕ × ℕ). h.1),
        held_by_le heads c.args.item.now.event c.requires.holds,
        c.requires.few,
        c.requires.bound,
      );
    }

pub returns : goal.returns
returns c shape rs was =
    let rest = c.change.ensures.rest in
    is_counted shape rs c.args.item.now c.args.self.now _ (record {
      size = ap (λ (count : BankCount). count.size) rest;
      seen = ap (λ (count : BankCount). count.seen + 1) rest;
      below = omega (arith, c.if-self-eq-MOST.false, c.requires.bound);
      len = c.change.ensures.len;
      queues = c.in_ok-change.ensures.queues;
      held = c.in_ok-change.ensures.held;
      hits = c.count.ensures.hits
          ∙ ap (λ (e : Event). c.change.new.self.stats.hits + cond (is_hit e) 1 0) c.event.ensures.shown
          ∙ ap (λ (count : BankCount). count.stats.hits + cond (is_hit c.args.item.now.event) 1 0) rest;
      primary = c.count.ensures.primary
          ∙ ap (λ (e : Event). c.change.new.self.stats.primary + cond (is_primary e) 1 0) c.event.ensures.shown
          ∙ ap (λ (count : BankCount). count.stats.primary + cond (is_primary c.args.item.now.event) 1 0) rest;
      merges = c.count.ensures.merges
          ∙ ap (λ (e : Event). c.change.new.self.stats.merges + cond (is_merge e) 1 0) c.event.ensures.shown
          ∙ ap (λ (count : BankCount). count.stats.merges + cond (is_merge c.args.item.now.event) 1 0) rest;
      stalls = c.count.ensures.stalls
          ∙ ap (λ (e : Event). c.change.new.self.stats.stalls + cond (is_stall e) 1 0) c.event.ensures.shown
          ∙ ap (λ (count : BankCount). count.stats.stalls + cond (is_stall c.args.item.now.event) 1 0) rest;
      peak = λ holds now.
          c.max-self.ensures
          ∙ ap (λ k. max k c.distinct.result)
          (c.count.ensures.peak ∙ ap (λ (count : BankCount). count.stats.peak) rest)
          ∙ ap (max c.args.self.now.stats.peak) (c.distinct.ensures holds now);
    }) was
