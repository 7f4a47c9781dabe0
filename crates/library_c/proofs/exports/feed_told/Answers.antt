use Rattle.std.proofs.Common.{◌∙◌, refl, sym}
use Rattle.library_c.proofs.Fed.{told_nothing, told_why}
use Rattle.library_c.proofs.exports.feed_told.Goals as goal

pub returns-in-Ok : goal.returns-in-Ok
returns-in-Ok c =
    let fed = c.feed.ensures in
    told_nothing c.args.piece.now c.args.session.now c.feed.new.self fed.shape fed.asked fed.fed fed.failed
    (sym c.in-Ok.is ∙ fed.told) c.in-Ok.ensures.fine c.silent.result c.args.line.now c.args.line.now
    (record { status_is = c.silent.ensures.status; quiet = (refl, c.silent.ensures.length) })

pub returns-in-Err : goal.returns-in-Err
returns-in-Err c =
    let fed = c.feed.ensures in
    told_why c.args.piece.now c.args.session.now c.feed.new.self fed.shape fed.asked fed.fed fed.failed c.in-Err.told
    (sym c.in-Err.is ∙ fed.told) c.in-Err.ensures.fault c.fault.result c.fault.ensures c.refused.result
    c.args.line.now c.refused.new.line c.refused.ensures
