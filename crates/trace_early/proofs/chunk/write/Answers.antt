use Rattle.std.proofs.Common.{◌+◌, ◌-◌, ◌/◌, ◌%◌, List, ℕ, length, set, take, ap, ◌∙◌}
use borrow.Rule.Slice.PartMut.{put_mid}
use Rattle.trace_early.proofs.Standing.{written}
use Rattle.trace_early.proofs.chunk.write.Goals as goal

pub returns-clause-item : goal.returns-clause-item
returns-clause-item c =
    let start = c.args.start in
    let n = length c.args.item.now in
    let low = n % 256 in
    let high = n / 256 in
    let two = set (set c.args.bytes.now start low) (start + 1) high in
    ap (λ (ys : List ℕ). take (start + 2 + n) (put_mid (start + 2) (start + 2 + n - (start + 2)) two ys))
    c.copy_from_slice.ensures.after
    ∙ written c.args.bytes.now start low high _ c.args.item.now c.requires.room
