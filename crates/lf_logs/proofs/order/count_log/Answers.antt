use Rattle.std.proofs.Common.{refl, List, [], length, get_or, sym, ap, ◌∙◌, arith}
use Rattle.lf_rules.specs.declared.event.Record.{Record}
use Rattle.lf_logs.specs.declared.order.Tally.{Tally}
use Rattle.lf_logs.proofs.Tallying.{Counted-start, Counted-all, Counted-kept, Counted-set_at}
use Rattle.lf_logs.proofs.order.count_log.Goals as goal
use Rattle.lf_logs.proofs.order.count_log.Goals.{then-named-bank+then-number-tallies, else-named-bank}
use Rattle.lf_logs.proofs.order.count_log.Goals.{else-named-bank-via-then-named-bank+else-number-tallies}
use Rattle.lf_logs.proofs.order.count_log.Goals.{else-named-bank-via-else-named-bank}

abbrev nothing : Tally
nothing = record { times = 0; last = record { log = 0; at = 0 } }

pub loop-at-init : goal.loop-at-init
loop-at-init g c = Counted-start c.args.bank c.args.log _ c.args.tallies.now c.requires.low

pub loop-at-preserved : goal.loop-at-preserved
loop-at-preserved g c =
    let rs : List Record = get_or (g.L.LogRecords.lists c.args.logs.now) c.args.log [] in
    let found = c.entry-named.ensures in
    let kept =
    Counted-kept c.args.bank c.args.log rs c.args.tallies.now c.loop-at.tallies c.if-named-bank.tallies
    c.loop-at.at found.item found.there c.loop-at.invariant in
    elim c.if-named-bank.branch [
      | then-named-bank+then-number-tallies w ↦
          Counted-set_at c.args.bank c.args.log rs c.args.tallies.now c.loop-at.tallies
          c.if-named-bank.tallies
          c.loop-at.at found.item found.there c.loop-at.invariant
          nothing _ c.entry-named.result.1 found.numbered (found.of_bank ∙ w.if-named-bank.true)
          w.if-number-tallies.true refl refl refl w.tallies-is
      | else-named-bank w ↦ elim w.else-named-bank.branch [
        | else-named-bank-via-then-named-bank+else-number-tallies w' ↦
            kept (λ own. omega (arith, found.numbered, w'.if-number-tallies.false)) w.tallies-is
        | else-named-bank-via-else-named-bank w' ↦
            kept (λ own. absurd (w'.if-named-bank.false (sym found.of_bank ∙ own))) w.tallies-is
      ]
    ]

pub returns : goal.returns
returns g c seen was =
    let lists = g.L.LogRecords.lists c.args.logs.now in
    Counted-all c.args.bank c.args.log _ c.args.tallies.now c.loop-at.tallies c.loop-at.at
    c.loop-at.invariant
    (omega (arith, ap (λ n. length (get_or lists n [])) c.from.ensures, c.log_len-at-end.ensures, c.loop-at-test.false))
    lists seen refl was
