use Rattle.std.proofs.Common.{ℕ, ◌≤◌, List, [], length, take, get_or, sym, ap, ◌∙◌, arith, Option, None}
use Rattle.std.proofs.lemmas.List.{take_all}
use Rattle.std.proofs.lemmas.List.Sums.{fold_more}
use Rattle.std.proofs.lemmas.Option.{slice_get_within, get_or_from_slice_get}
use Rattle.lf_rules.specs.declared.event.Record.{Record}
use Rattle.count_usage.specs.Usage.{higher, highest_tag}
use Rattle.count_usage.proofs.port.highest_tag.Goals as goal

pub loop-at-preserved : goal.loop-at-preserved
loop-at-preserved g c =
    let log : List Record = get_or (g.L.LogRecords.lists c.args.logs.now) c.args.port [] in
    let at = c.loop-at.at in
    let item : Record = c.lend.new.room in
    c.higher-highest.ensures
    ∙ ap (higher c.loop-at.highest) c.event.ensures.shown
    ∙ ap (λ (tag : Option ℕ). higher tag item.event) c.loop-at.invariant
    ∙ ap (λ (r : Record). higher (highest_tag (take at log)) r.event)
    (sym (get_or_from_slice_get log at item item c.lend.ensures))
    ∙ sym (fold_more (λ (tag : Option ℕ) (r : Record). higher tag r.event) None log at item
    (slice_get_within log at item c.lend.ensures))

pub returns : goal.returns
returns g c =
    let lists = g.L.LogRecords.lists c.args.logs.now in
    let log : List Record = get_or lists c.args.port [] in
    let done : length log ≤ c.loop-at.at = omega (
      arith,
      ap (λ n. length (get_or lists n [])) c.from.ensures,
      c.log_len-at-end.ensures,
      c.loop-at-test.false,
    ) in
    c.loop-at.invariant ∙ ap highest_tag (take_all c.loop-at.at log done)
