use Rattle.std.proofs.Common.{◌≤◌, ◌^◌, List, length}
use Rattle.std.specs.Global.{Vec}
use Rattle.std.proofs.lemmas.List.Elements.{All-map}
use Rattle.lf_rules.specs.declared.event.Record.{Record}
use Rattle.lf_stats.proofs.statistics.stats.Goals as goal

pub stats_of-requires-clause-short : goal.stats_of-requires-clause-short
stats_of-requires-clause-short c =
    All-map (λ (log : List Record). length log ≤ 2 ^ 24) (λ (v : Vec Record). v.items) c.args.logs.now.items
    c.requires.short
