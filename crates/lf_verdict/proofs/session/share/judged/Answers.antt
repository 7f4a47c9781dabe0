use Rattle.lf_verdict.proofs.Workers.{entries_after, banks_after}
use Rattle.lf_verdict.proofs.session.share.judged.Goals as goal

pub returns : goal.returns
returns g c =
    let start = c.args.standing in
    let records = c.args.records.now.records in
    c.together.ensures start records (entries_after start records c.after-entries.result c.after-entries.ensures)
    (banks_after start records c.after-banks.result c.after-banks.ensures)
