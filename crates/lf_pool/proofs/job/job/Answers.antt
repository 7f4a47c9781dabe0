use Rattle.std.proofs.Common.{◌≡◌, ◌∙◌, ap, sym, subst, length, ◌<◌, arith}
use Rattle.std.specs.Global.{Vec}
use Rattle.lf_rules.specs.declared.event.Record.{Record}
use Rattle.lf_rules.specs.Order.{log_at}
use Rattle.lf_rules.specs.Outcomes.{IsPortOutcome}
use Rattle.lf_rules.specs.Lists.{lists_of}
use Rattle.lf_pool.proofs.Records.{list_of}
use Rattle.lf_pool.proofs.job.job.Goals as goal

pub returns-then-number-ports : goal.returns-then-number-ports
returns-then-number-ports c =
    let jobs = c.args.jobs.now in
    let is_port = c.if-number-ports.true in
    let there : c.args.number < length jobs.logs.items = (let n = c.requires.ready.logs in omega arith) in
    let log : c.deref.result.now ≡ log_at (lists_of jobs.logs) c.args.number =
    c.deref.ensures.value ∙ ap (λ (v : Vec Record). v.items) c.index.ensures
    ∙ sym (list_of jobs.logs c.args.number c.index.result.now there) in record {
      port = λ lt. subst (λ rs. IsPortOutcome jobs.shape rs c.port_replay.result) log c.port_replay.ensures.outcome;
      port_memory = λ lt. c.port_replay.ensures.memory;
      bank = λ bank e. absurd (omega arith);
    }
