use Rattle.std.proofs.Common.{◌≡◌, ℕ, ◌<◌, List, length, take, get_or, true, false, refl, ap, ◌∙◌, arith}
use Rattle.lf_rules.specs.Fits.{Bytes}
use Rattle.lf_codec.proofs.Backward.{least_after}
use Rattle.lf_codec.proofs.FitsAt.{FitsNext, memory_at, memory_more}
use Rattle.lf_codec.proofs.fitting.memory_fits.Goals as goal
use Rattle.lf_codec.proofs.fitting.memory_fits.Goals.{then-from-least-via-then-from-least}
use Rattle.lf_codec.proofs.fitting.memory_fits.Goals.{then-from-least-via-else-from-least+then-not-is_data}

pub returns-then-from-least : goal.returns-then-from-least
returns-then-from-least c =
    let lt : c.loop-block.block-index < length c.args.memory.now.items =
    rw (← c.deref-block-items.ensures.value) c.loop-block-test.true in
    let is : c.loop-block-item.result ≡ get_or c.args.memory.now.items c.loop-block.block-index
    c.loop-block-item.result = c.loop-block-item.is
    ∙ ap (λ (xs : List (ℕ × Bytes)). get_or xs c.loop-block.block-index c.loop-block-item.result)
    c.deref-block-items.ensures.value in (
      λ no. absurd (let bad : false ≡ true = no in cc),
      λ fits. absurd (
          let next : FitsNext c.args.size (least_after 0 (take c.loop-block.block-index c.args.memory.now.items))
          c.loop-block-item.result =
          rw is (memory_at c.args.size 0 c.args.memory.now.items c.loop-block.block-index c.loop-block-item.result lt
          fits) in
          elim c.then-from-least.branch [
            | then-from-least-via-then-from-least w ↦ omega
                (arith, next.low, w.if-from-least.true, c.loop-block.invariant.least, c.from.ensures)
            | then-from-least-via-else-from-least+then-not-is_data w ↦
                (let bad : false ≡ true = w.if-not-is_data.ensures.1 next.carried in cc)
          ]),
    )

pub loop-block-preserved : goal.loop-block-preserved
loop-block-preserved c =
    let lt : c.loop-block.block-index < length c.args.memory.now.items =
    rw (← c.deref-block-items.ensures.value) c.loop-block-test.true in
    let is : c.loop-block-item.result ≡ get_or c.args.memory.now.items c.loop-block.block-index
    c.loop-block-item.result = c.loop-block-item.is
    ∙ ap (λ (xs : List (ℕ × Bytes)). get_or xs c.loop-block.block-index c.loop-block-item.result)
    c.deref-block-items.ensures.value in
    let next : FitsNext c.args.size (least_after 0 (take c.loop-block.block-index c.args.memory.now.items))
    c.loop-block-item.result = record {
      low = omega (arith, c.loop-block.invariant.least, c.if-from-least.false, c.from.ensures);
      limit = omega arith;
      carried = c.if-not-is_data.ensures.0 refl;
    } in
    let more = memory_more c.args.size c.args.memory.now.items c.loop-block.block-index c.loop-block-item.result lt
    is c.loop-block.invariant.fits next in
    record { fits = more.fits; least = rw c.from-least.ensures more.least }
