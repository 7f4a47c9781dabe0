use Rattle.std.proofs.Common.{sym, ◌∙◌, subst}
use Rattle.lf_codec.specs.Packed.{PackedRecords}
use Rattle.lf_verdict.specs.declared.session.share.Share.TheVariants.{Banks}
use Rattle.lf_verdict.specs.inner.Shares.{CanTake}
use Rattle.lf_verdict.proofs.Workers.{banks_can_take}
use Rattle.lf_verdict.proofs.session.workers.Workers.begin.Goals as goal

pub lend-banks-requires-clause-can : goal.lend-banks-requires-clause-can
lend-banks-requires-clause-can g c κs lives =
    let start = c.args.standing in
    subst (λ (p : PackedRecords). CanTake p.records (Banks start.banks))
    (sym (c.in_ok-for_banks.ensures ∙ c.in_ok-batch.ensures.ok))
    (banks_can_take start c.args.records.records c.requires.follow)
