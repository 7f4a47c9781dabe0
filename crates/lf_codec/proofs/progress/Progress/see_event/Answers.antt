use Rattle.std.proofs.Common.{◌+◌, length, sym, subst}
use Rattle.lf_rules.specs.declared.event.Record.{Record}
use Rattle.lf_codec.specs.Takes.{IsWholeRecord}
use Rattle.lf_codec.proofs.WholeRecord.{whole_record}
use Rattle.lf_codec.proofs.progress.Progress.see_event.Goals as goal

pub returns-clause-whole : goal.returns-clause-whole
returns-clause-whole c =
    let a = c.args in let w = c.in_ok-whole in
    subst (λ (item : Record). IsWholeRecord a.self.now a.bytes.now item
    (8 + length w.whole.fixed.now + length w.whole.carried.now)) (sym c.record_view.ensures)
    (whole_record a.self.now a.bytes.now w.whole.rest.now w.whole.fixed.now w.whole.carried.now w.whole.head
    w.ensures.head w.ensures.parts)
