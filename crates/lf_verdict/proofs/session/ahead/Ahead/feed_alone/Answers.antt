use Rattle.std.proofs.Common.{◌++◌, sym, ap, ◌∙◌}
use Rattle.lf_verdict.specs.declared.session.ahead.Ahead.{Ahead}
use Rattle.lf_verdict.specs.declared.session.asked.Asked.{Asked}
use Rattle.lf_verdict.specs.declared.stop.Stop.TheVariants as stops
use Rattle.lf_verdict.proofs.Aheads.{still_going, none_ahead, idle_ahead, stopped_ahead}
use Rattle.lf_verdict.proofs.session.ahead.Ahead.feed_alone.Goals as goal

pub returns-in-Ok-clause-fed : goal.returns-in-Ok-clause-fed
returns-in-Ok-clause-fed g c bytes taken =
    let a : Ahead g.row.G.Denot = record c.settle.new.self { intake = c.feed.new.self } in
    none_ahead a (bytes ++ c.args.piece.now) c.in-Ok.ensures.alone c.in-Ok.ensures.none
    (c.feed.ensures.fed bytes (still_going c.settle.new.self.intake bytes (c.in-Ok.ensures.stop ∙ c.requires.going)
    (c.in-Ok.ensures.taken bytes taken)))

pub returns-in-Ok-clause-ahead : goal.returns-in-Ok-clause-ahead
returns-in-Ok-clause-ahead g c =
    let a : Ahead g.row.G.Denot = record c.settle.new.self { intake = c.feed.new.self } in
    let asked = ap (λ (asked : Asked). asked.watched) (sym (c.feed.ensures.asked ∙ c.in-Ok.ensures.asked)) in
    idle_ahead a c.in-Ok.ensures.alone c.in-Ok.ensures.none (c.feed.ensures.as_asked c.in-Ok.ensures.as_asked)
    (λ watched. c.feed.ensures.settled (c.in-Ok.ensures.settled (asked ∙ watched)))

pub returns-in-Err-clause-ahead : goal.returns-in-Err-clause-ahead
returns-in-Err-clause-ahead g c =
    stopped_ahead c.stop_with.new.self stops.Memory c.stop_with.ensures.stopped c.stop_with.ensures.alone (λ can. can)
