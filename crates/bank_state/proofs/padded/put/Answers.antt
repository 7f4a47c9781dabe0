use Rattle.std.proofs.Common.{ℕ, ◌+◌, ◌-◌, length, List, slice_index, ap, ◌∙◌, arith}
use borrow.Rule.Slice.PartMut.{put_mid}
use Rattle.bank_state.proofs.Bytes.{put_mid_is}
use Rattle.bank_state.proofs.padded.put.Goals as goal

pub returns : goal.returns
returns c = ap (λ (ys : List ℕ). slice_index (put_mid c.args.offset
    (c.args.offset + length c.args.new.now - c.args.offset) c.args.bytes.now ys)) c.copy_from_slice.ensures.after
    ∙ put_mid_is c.args.bytes.now c.args.new.now c.args.offset _ (omega arith) (omega arith)
