use Rattle.lf_codec.specs.Packed.{slice_of}
use Rattle.lf_codec.proofs.Again.{front_long, begin_alone}
use Rattle.lf_codec.proofs.packed.head_of.Goals as goal

pub split_at-requires : goal.split_at-requires
split_at-requires c =
    let one = c.requires.spelled in
    rw c.slice_of.ensures (front_long one.0 (slice_of c.args.bytes.now c.args.start c.args.len) one.1.item
    (begin_alone one.0 (slice_of c.args.bytes.now c.args.start c.args.len) one.1))
