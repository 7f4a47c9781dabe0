use Rattle.std.proofs.Common.{◌≡◌, ◌+◌, ◌*◌, map, sym, ap, ◌∙◌, arith}
use Rattle.std.specs.List.{range_with_len, filter}
use Rattle.lf_rules.specs.Address.{is_under}
use Rattle.lf_rules.proofs.Bytes.{taken_more, passed_over}
use Rattle.explain_replay.proofs.addresses.masked_addresses.Goals as goal
use Rattle.explain_replay.proofs.addresses.masked_addresses.Goals.{then-is_under, else-is_under}

pub loop-place-preserved : goal.loop-place-preserved
loop-place-preserved c = elim c.if-is_under.branch [
  | then-is_under w ↦ rw w.addresses-is (record {
    taken = taken_more _ _ c.loop-place.place _ _ _ (sym w.if-is_under.ensures) w.push.ensures.items
        (λ i. c.first_address-first.ensures i + w.from.ensures i) c.loop-place.invariant.taken;
    count = omega arith;
  })
  | else-is_under w ↦ rw w.addresses-is (record {
    taken = passed_over _ _ c.loop-place.place _ (sym w.if-is_under.ensures) c.loop-place.invariant.taken;
    count = omega arith;
  })
]

pub returns : goal.returns
returns c =
    let shape = c.args.shape.now in
    let all : c.loop-place.place ≡ shape.block = omega (arith, c.loop-place-test.false, c.loop-place.auto.place-end) in
    c.loop-place.invariant.taken
    ∙ ap (λ n. map (λ place. c.args.block * shape.block + place)
    (filter (is_under c.args.mask.0) (range_with_len 0 n))) all
