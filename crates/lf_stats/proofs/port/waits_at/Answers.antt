use Rattle.std.proofs.Common.{◌≤◌, List, [], false, length, get_or, sym, ap, ◌∙◌, arith}
use Rattle.std.proofs.lemmas.List.{length-replicate, take_all}
use Rattle.std.proofs.lemmas.Option.{slice_get_within, get_or_from_slice_get}
use Rattle.lf_rules.specs.declared.event.Record.{Record}
use Rattle.lf_logs.specs.Incomplete.{waits, waits_after}
use Rattle.lf_stats.proofs.Waits.{none, waits_more}
use Rattle.lf_stats.proofs.port.waits_at.Goals as goal

pub loop-at-init : goal.loop-at-init
loop-at-init g c = record { len = length-replicate 256 false; waits = λ tag h. none 256 tag }

pub loop-at-preserved : goal.loop-at-preserved
loop-at-preserved g c =
    let log : List Record = get_or (g.L.LogRecords.lists c.args.logs.now) c.args.port [] in
    let at = c.loop-at.at in
    let item = c.lend.new.room in
    let more = waits_more log at item (slice_get_within log at item c.lend.ensures)
    (sym (get_or_from_slice_get log at item item c.lend.ensures)) in
    record {
      len = c.note.ensures.len ∙ c.loop-at.invariant.len;
      waits = λ tag h.
          c.note.ensures.waits tag h
          ∙ ap (waits_after tag (get_or c.loop-at.waits tag false)) c.event.ensures.shown
          ∙ ap (λ b. waits_after tag b item.event) (c.loop-at.invariant.waits tag h) ∙ sym (more tag);
    }

pub returns-clause-waits : goal.returns-clause-waits
returns-clause-waits g c tag h =
    let lists = g.L.LogRecords.lists c.args.logs.now in
    let log : List Record = get_or lists c.args.port [] in
    let done : length log ≤ c.loop-at.at = omega (
      arith,
      ap (λ n. length (get_or lists n [])) c.from.ensures,
      c.log_len-at-end.ensures,
      c.loop-at-test.false,
    ) in
    c.loop-at.invariant.waits tag h ∙ ap (λ rs. waits rs tag) (take_all c.loop-at.at log done)
