use Rattle.std.proofs.Common.{◌≡◌, List, [], ◌++◌, rules, subst}
use Rattle.lf_rules.specs.declared.event.Record.{Record}
use Rattle.lf_codec.specs.Reading.{reading_of}
use Rattle.wave_order.specs.Left.{HasLeft}
use Rattle.wave_draw.proofs.Splitting.{split_now}
use Rattle.wave_draw.proofs.ordering.SplitSink.feed.Goals as goal

pub returns-clause-fed : goal.returns-clause-fed
returns-clause-fed c bytes was =
    let records = (reading_of bytes).records in
    let has = c.in_ok-enough.ensures.read bytes (reading_of bytes).memory records was.read in
    let taken : c.keep_records.new.reader ≡ record c.feed.new.reader { memory = []; records = [] } = search rules in
    let same : c.drop_memory.new.reader.records ≡ c.feed.new.reader.records = search rules in
    let left = subst (λ (rs : List Record). HasLeft c.keep_records.new.left [] (records ++ rs)) same
    (c.in_ok-keep_records.ensures.kept [] records was.left) in
    split_now bytes c.args.piece.now _ c.feed.new.reader has taken left
