use Rattle.std.proofs.Common.{refl, sym, ◌∙◌, inr}
use Rattle.lf_codec.proofs.Judged.{passed_from_no_error}
use Rattle.lf_codec.proofs.Bytes.{header_kept}
use Rattle.lf_codec.proofs.reader.Reader.take_step.Goals as goal

pub returns-in-Err-keep-clause-takes : goal.returns-in-Err-keep-clause-takes
returns-in-Err-keep-clause-takes c =
    let same = c.in-Err-keep.ensures.err in
    let some = rw c.advance-found.ensures.found at c.in-Err-keep.ensures.some in
    rw c.fail-in-Err-keep.ensures.failed (
      refl,
      inr (rw (← c.self.view_is, c.fail-in-Err-keep.ensures.fault) (record {
        cause = c.into.ensures;
        offset = refl;
        passes = sym c.check.ensures.cause ∙ passed_from_no_error _ c.in_default.not-Err;
        gives_some = some;
        memory = same.0;
        records = same.1;
        header = rw c.advance-found.ensures.next (header_kept c.self.inside.progress.stage c.self.inside.progress
            c.args.bytes.now some);
      })),
    )

pub advance-found-requires-clause-checked : goal.advance-found-requires-clause-checked
advance-found-requires-clause-checked c = sym c.check.ensures.cause ∙ passed_from_no_error _ c.in_default.not-Err
