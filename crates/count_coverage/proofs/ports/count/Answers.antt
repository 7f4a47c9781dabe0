use Rattle.std.proofs.Common.{◌≡◌, ℕ, ◌+◌, ◌<◌, Bool, cond, List, length, get_or, set, sym, ap, ◌∙◌, arith}
use Rattle.std.proofs.lemmas.List.{length-set}
use Rattle.count_coverage.specs.Points.{port_reaches}
use Rattle.count_coverage.specs.Counted.{port_point_at}
use Rattle.count_coverage.proofs.Counting.{done_next, rest_next}
use Rattle.count_coverage.proofs.ports.count.Goals as goal
use Rattle.count_coverage.proofs.ports.count.Goals.{then-reaches, else-reaches}

pub loop-i-preserved : goal.loop-i-preserved
loop-i-preserved c =
    let first : List ℕ = c.args.counts.now in
    let now : List ℕ = c.loop-i.counts in
    let i : ℕ = c.loop-i.i in
    let more = λ (b : Bool). cond b (set now i (get_or now i 0 + 1)) now in
    let bit = λ (n : ℕ). port_reaches (port_point_at n) c.args.item.now.event in
    let added : c.if-reaches.counts ≡ more (bit i) = elim c.if-reaches.branch [
      | then-reaches w ↦ w.counts-is ∙ ap more (sym w.if-reaches.true)
      | else-reaches w ↦ w.counts-is ∙ ap more (sym w.if-reaches.false)
    ] ∙ ap more c.reaches.ensures in
    let long : length c.if-reaches.counts ≡ length now = elim c.if-reaches.branch [
      | then-reaches w ↦ ap length w.counts-is ∙ length-set now i (get_or now i 0 + 1)
      | else-reaches w ↦ ap length w.counts-is
    ] in
    let inside : i < length now = omega (arith, c.loop-i-test.true, c.if-reaches.array_long, long) in
    record {
      done = done_next first now i inside c.loop-i.invariant.rest bit c.loop-i.invariant.done c.if-reaches.counts added;
      rest = rest_next first now i inside c.loop-i.invariant.rest (bit i) c.if-reaches.counts added;
    }
