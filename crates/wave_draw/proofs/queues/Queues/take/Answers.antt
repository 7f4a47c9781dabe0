use Rattle.std.proofs.Common.{◌≤◌, length, arith}
use Rattle.std.proofs.lemmas.List.{length-map}
use Rattle.wave_draw.specs.Turns.{queued}
use Rattle.wave_draw.proofs.Waiting.{one_goes, none_less}
use Rattle.wave_draw.proofs.queues.Queues.take.Goals as goal

pub returns-in_err-get_mut-clause-rest : goal.returns-in_err-get_mut-clause-rest
returns-in_err-get_mut-clause-rest c records are =
    let logs = c.args.self.now.logs.items in
    let beyond : length (queued c.args.self.now) ≤ c.args.log =
    omega (arith, length-map logs (λ log. log.items), c.in_err-get_mut.ensures, c.from.ensures) in
    none_less (queued c.args.self.now) records c.args.log beyond are

pub returns-clause-rest : goal.returns-clause-rest
returns-clause-rest c records are =
    one_goes c.args.self.now.logs.items c.args.log c.from.result c.from.ensures records c.in_ok-get_mut.field-0.now
    c.pop_front.new.self c.in_ok-get_mut.ensures.value (omega (arith, c.in_ok-get_mut.ensures.item)) are
    c.pop_front.ensures.rest
