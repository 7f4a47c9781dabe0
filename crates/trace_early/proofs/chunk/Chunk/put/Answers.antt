use Rattle.std.proofs.Common.{◌+◌, ◌*◌, ◌/◌, ◌%◌, List, ℕ, length, sym, subst, arith}
use Rattle.trace_early.specs.Kept.{IsAt}
use Rattle.trace_early.proofs.Standing.{stands_written, stays_written}
use Rattle.trace_early.proofs.chunk.Chunk.put.Goals as goal

pub returns-clause-old : goal.returns-clause-old
returns-clause-old c from other at =
    let t = c.self.inside in
    let n = length c.args.item.now in
    stays_written t.bytes.len t.bytes.items c.deref_mut.result.now c.write.new.bytes t.used (4 * ((t.used + 3) / 4))
    (n % 256) (n / 256) c.args.item.now c.deref_mut.ensures.value t.bytes.ok.0 c.write.ensures.len (omega arith)
    (omega (arith, c.self.invariant)) (omega arith) c.write.ensures.item from other
    (subst (λ (view : List ℕ × ℕ). IsAt view.0 from other) (sym c.self.view_is) at)

pub returns-clause-own : goal.returns-clause-own
returns-clause-own c =
    let t = c.self.inside in
    let n = length c.args.item.now in
    stands_written t.bytes.len t.bytes.items c.deref_mut.result.now c.write.new.bytes t.used (4 * ((t.used + 3) / 4))
    (n % 256) (n / 256) c.args.item.now c.deref_mut.ensures.value t.bytes.ok.0 c.write.ensures.len (omega arith)
    (omega (arith, c.self.invariant)) (omega arith) c.write.ensures.item
