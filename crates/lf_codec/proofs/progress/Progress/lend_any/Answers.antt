use Rattle.std.proofs.Common.{ℕ, ap, ◌∙◌}
use Rattle.lf_codec.specs.Steps.{counted}
use Rattle.lf_codec.proofs.WholeRecord.{log_exists, room_behind}
use Rattle.lf_codec.proofs.progress.Progress.lend_any.Goals as goal

pub count_on-requires-clause-room : goal.count_on-requires-clause-room
count_on-requires-clause-room c =
    let found = c.in_ok-len.ensures in
    room_behind c.args.self.now c.args.bytes.now c.see_any.new.place c.in_ok-len.len found.whole found.stage
    c.requires

pub count_on-requires-clause-log : goal.count_on-requires-clause-log
count_on-requires-clause-log c =
    let found = c.in_ok-len.ensures in
    rw c.log.ensures (log_exists c.args.self.now c.args.bytes.now c.see_any.new.place c.in_ok-len.len found.whole
    found.stage c.requires)

pub returns-clause-some : goal.returns-clause-some
returns-clause-some c =
    let p = c.args.self.now in let found = c.in_ok-len.ensures in record {
      stage = found.stage;
      whole = found.whole;
      is_counted = c.count_on.ensures ∙ ap (λ (log : ℕ). counted p c.in_ok-len.len log) c.log.ensures;
    }
