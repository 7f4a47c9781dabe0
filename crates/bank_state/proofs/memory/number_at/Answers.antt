use Rattle.std.proofs.Common.{arith, ◌≡◌, ℕ, List, replicate, ap, ◌∙◌}
use Rattle.std.specs.Int.{from_le_bytes, w64}
use borrow.Rule.Slice.PartMut.{put_mid}
use Rattle.bank_state.proofs.Bytes.{number_read, padded_read}
use Rattle.bank_state.proofs.memory.number_at.Goals as goal

pub returns-then-offset-le64 : goal.returns-then-offset-le64
returns-then-offset-le64 c =
    number_read c.args.bytes.now c.args.offset c.args.size c.from_le_bytes.result
    (omega (arith, c.told-bytes, c.if-offset-le64.true)) c.requires.small c.fits-bytes
    (c.from_le_bytes.ensures ∙ ap (from_le_bytes w64) c.eight_at.ensures)

pub returns : goal.returns
returns c =
    let number : c.from_le_bytes-2.result ≡ from_le_bytes w64
    (put_mid 0 c.args.size (replicate 8 0) c.copy_from_slice.new.self) = c.from_le_bytes-2.ensures in
    padded_read c.args.bytes.now c.args.offset c.args.size c.from_le_bytes-2.result
    (omega (arith, c.told-bytes, c.requires.within)) c.requires.small c.fits-bytes
    (number ∙ ap (λ (bytes : List ℕ). from_le_bytes w64 (put_mid 0 c.args.size (replicate 8 0) bytes))
    c.copy_from_slice.ensures.after)
