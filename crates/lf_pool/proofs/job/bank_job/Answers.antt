use Rattle.std.proofs.Common.{◌≡◌, ◌∙◌, ap, sym, subst, length, ◌<◌, arith}
use Rattle.std.specs.Prelude.{IsSome}
use Rattle.std.specs.List.{All}
use Rattle.std.specs.Global.{Vec}
use Rattle.lf_replay.specs.Step.{IsBankOrder}
use Rattle.lf_replay.specs.Lent.{lent}
use Rattle.lf_logs.specs.declared.order.Place.{Place}
use Rattle.lf_rules.specs.Lists.{lists_of}
use Rattle.lf_logs.specs.Places.{record_at, records_at}
use Rattle.lf_pool.specs.Job.{places_of}
use Rattle.lf_pool.proofs.Records.{list_of, bank_list}
use Rattle.lf_pool.proofs.job.bank_job.Goals as goal

pub records_at-requires : goal.records_at-requires
records_at-requires c =
    let jobs = c.args.jobs.now in
    let there : c.args.bank < length jobs.orders.items = (let n = c.requires.ready.orders in let b =
    c.requires.bank in omega arith) in
    let places : c.deref.result.now ≡ places_of jobs c.args.bank =
    c.deref.ensures.value ∙ ap (λ (v : Vec Place). v.items) c.index.ensures
    ∙ sym (list_of jobs.orders c.args.bank c.index.result.now there) in
    subst (All (λ place. IsSome (record_at (lists_of jobs.logs) place))) (sym places)
    (c.requires.ready.ordered c.args.bank c.requires.bank).named

pub replay_lent-requires-clause-records : goal.replay_lent-requires-clause-records
replay_lent-requires-clause-records c =
    let jobs = c.args.jobs.now in
    let there : c.args.bank < length jobs.orders.items = (let n = c.requires.ready.orders in let b =
    c.requires.bank in omega arith) in
    let places : c.deref.result.now ≡ places_of jobs c.args.bank =
    c.deref.ensures.value ∙ ap (λ (v : Vec Place). v.items) c.index.ensures
    ∙ sym (list_of jobs.orders c.args.bank c.index.result.now there) in
    let records : lent c.deref-in-Ok.result.now ≡ records_at (lists_of jobs.logs) (places_of jobs c.args.bank) =
    ap lent c.deref-in-Ok.ensures.value
    ∙ c.in-Ok.ensures ∙ ap (records_at (lists_of jobs.logs)) places in
    subst (IsBankOrder jobs.shape c.args.bank) (sym records)
    (bank_list jobs.shape (lists_of jobs.logs) c.args.bank _ c.requires.ready.fit
    (c.requires.ready.ordered c.args.bank c.requires.bank).numbered)
