use Rattle.std.proofs.Common.{◌≡◌, [], ◌∷◌, ◌++◌, ap, refl, sym, ◌∙◌, bit_or}
use Rattle.std.specs.Prelude.{slice_index}
use Rattle.lf_rules.specs.State.{update, Request, Ready}
use Rattle.lf_rules.specs.Table.{accepted, store_mask, value_of, oldest}
use Rattle.bank_state.specs.Queues.{queue_at}
use Rattle.bank_cells.specs.Cells.{first_at, written_at, memory_at}
use Rattle.bank_events.proofs.Heads.{hit_judged}
use Rattle.bank_events.proofs.Steady.{if_ok}
use Rattle.bank_events.proofs.bank.Bank.hit.Goals as goal

pub returns : goal.returns
returns g c = rw (← c.self.view_is) (λ log waiting regs2 alike held.
    let head = rw c.deref.ensures.value at c.in-Some.ensures in
    let present = c.in-Present.ensures c.block.result (sym c.in-Some-find.ensures) in
    let written = written_at c.self.inside.cells in
    let memory = memory_at c.self.inside.cells in
    let reply : c.new.result ≡ record {
      port = c.args.port;
      tag = c.args.tag;
      value = value_of memory (oldest (queue_at c.self.inside.queues.items c.args.port));
    } = c.new.ensures ∙ (λ i. record {
      port = c.args.port;
      tag = c.args.tag;
      value = (c.value_of-value.ensures ∙ ap (value_of memory) head.1) i;
    }) in
    let effect = c.accept.ensures.memory ∙ ap (accepted memory) head.1 in
    let more = c.accept.ensures.written
    ∙ ap (λ (r : Request). update written r.block (bit_or (written r.block) (store_mask r))) head.1 in
    let pushed = if_ok c.push.result c.if-is_err.ensures.value c.push.ensures.ok
    ∙ ap (λ (r : Ready). c.self.inside.ready.items ++ r ∷ []) reply in record {
      kept = hit_judged c.self.inside.shape c.self.inside.queues.items c.args.port c.args.tag c.in-Some.request.now
          c.self.invariant.framed.ports head.0 head.1 (first_at c.self.inside.cells) c.block.result c.block.ensures
          present;
      shape = refl;
      waiting = record { level1 = alike.level1; level2 = alike.level2 };
      known = λ i. record {
        queue = c.leave.ensures.rest i;
        ready = pushed i;
        memory = effect i;
        first = c.accept.ensures.first i;
        written = more i;
        dirty = c.accept.ensures.dirty i;
        second = c.accept.ensures.second i;
        counts1 = slice_index c.self.inside.counts1.items;
        counts2 = slice_index c.self.inside.counts2.items;
        waiting = waiting;
        regs2 = regs2;
      };
    })
