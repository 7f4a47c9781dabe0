use Rattle.std.proofs.Common.{◌≡◌, ◌+◌, drop}
use Rattle.std.specs.List.{prefix_len, range_with_len}
use Rattle.explain_refusal.specs.Finding.{fits_block, wide_mask}
use Rattle.explain_refusal.proofs.finding.wide_mask.Given as goal

abbrev pub invariant-loop-place : goal.invariant-loop-place
invariant-loop-place l =
    l.place + prefix_len (fits_block l.header l.bytes) (drop l.place (range_with_len 0 l.header.factor))
    ≡ wide_mask l.header l.bytes
