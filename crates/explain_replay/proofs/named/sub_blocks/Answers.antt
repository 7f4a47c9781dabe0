use Rattle.std.proofs.Common.{◌≡◌, map, ap, ◌∙◌, arith}
use Rattle.std.specs.List.{range_with_len}
use Rattle.lf_rules.specs.Address.{sub_block}
use Rattle.bank_state.proofs.Bytes.{more_read}
use Rattle.explain_replay.proofs.named.sub_blocks.Goals as goal

pub loop-place-preserved : goal.loop-place-preserved
loop-place-preserved c =
    more_read (sub_block c.args.shape.now c.args.second) c.loop-place.place c.in_ok-push.ensures.items
    c.loop-place.invariant c.sub_block.ensures

pub returns : goal.returns
returns c =
    let all : c.loop-place.place ≡ c.args.shape.now.factor =
    omega (arith, c.loop-place-test.false, c.loop-place.auto.place-end) in
    c.loop-place.invariant ∙ ap (λ n. map (sub_block c.args.shape.now c.args.second) (range_with_len 0 n)) all
