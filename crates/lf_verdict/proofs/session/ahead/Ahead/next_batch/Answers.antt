use Rattle.std.proofs.Common.{List, sym, ap, ◌∙◌, subst}
use Rattle.lf_rules.specs.declared.event.Record.{Record}
use Rattle.lf_codec.specs.Packed.{PackedRecords}
use Rattle.lf_verdict.specs.declared.session.ahead.Ahead.{Ahead}
use Rattle.lf_verdict.specs.inner.Fed.{HasTaken}
use Rattle.lf_verdict.specs.inner.Taking.{running_before}
use Rattle.lf_verdict.proofs.session.ahead.Ahead.next_batch.Goals as goal

pub returns-clause-taken : goal.returns-clause-taken
returns-clause-taken g c bytes taken =
    let same = ap (λ (p : PackedRecords). p.records) c.replace.ensures.value
    ∙ ap (λ (a : Ahead g.row.G.Denot). a.records.records) c.in_ok-standing.ensures.rest in
    subst (λ (rs : List Record). HasTaken (running_before c.in_ok-standing.standing rs c.args.self.now.intake) bytes)
    (sym same) (c.in_ok-standing.ensures.taken bytes taken)
