use Rattle.std.proofs.Common.{arith}
use Rattle.model_plain.proofs.PlainSteps.{on_both, stepped, fence_if, fenced}
use Rattle.model_plain.proofs.machine.Machine.apply.Goals as goal

pub returns-clause-state : goal.returns-clause-state
returns-clause-state c = on_both c.apply_event.result c.apply_event.ensures.slice c.apply_event.ensures.memory
    (stepped c.args.self.now.shape c.args.self.now.memory c.apply_event.new.memory c.args.self.now.busy.items
    c.apply_busy.new.busy.items c.args.self.now.slices.items
    c.from-bank.result c.index_mut-slice.result.now c.apply_event.new.slice c.args.item.now c.from-bank.ensures
    (omega arith) c.index_mut-slice.ensures.value c.in_ok-apply_busy.ensures)

pub returns-then-bank-len-clause-state : goal.returns-then-bank-len-clause-state
returns-then-bank-len-clause-state c =
    fenced c.args.self.now.shape c.args.self.now.memory c.args.self.now.busy.items c.apply_busy.new.busy.items
    c.args.self.now.slices.items c.args.item.now
    (fence_if c.args.self.now.shape c.args.item.now c.requires.fits (omega (arith, c.requires.machine.banks)))
    c.in_ok-apply_busy.ensures
