use Rattle.std.proofs.Common.{◌≡◌, ◌-◌, ◌<◌, ◌++◌, List, ℕ, length, None, ap, arith}
use Rattle.lf_codec.specs.Steps.{stage_len}
use Rattle.lf_codec.specs.Reading.{Reading}
use Rattle.lf_codec.proofs.Judged.{OnOk_at_is_ok}
use Rattle.lf_codec.proofs.Soundness.{some_len}
use Rattle.lf_codec.proofs.Parts.{lacks, part_waits, part_ends, part_ends_badly}
use Rattle.lf_codec.proofs.reader.Reader.take_part.Goals as goal

pub returns-then-rest-lacks-clause-takes : goal.returns-then-rest-lacks-clause-takes
returns-then-rest-lacks-clause-takes c =
    let r : Reading = record {
      progress = c.self.inside.progress;
      pending = c.self.inside.pending.items;
      memory = c.self.inside.memory.items;
      records = c.self.inside.records.items;
      fault = c.self.inside.fault;
    } in
    let fine : r.fault ≡ None = rw (← c.self.view_is) at c.requires.fine in
    let here : length c.args.rest.now < lacks c.args.self.now = omega (
      arith,
      c.if-rest-lacks.true,
      c.lacks-lacks.ensures.step,
    ) in
    let short : length c.args.rest.now < lacks r = rw (← c.self.view_is) at here in
    let few = (some_len c.self.inside.progress c.self.invariant.sound).1 in
    let fits = c.try_extend_from_slice.ensures.variant.1 (omega (arith, short, few)) in
    let longer : c.try_extend_from_slice.new.self.items ≡ c.self.inside.pending.items ++ c.args.rest.now =
    OnOk_at_is_ok c.try_extend_from_slice.result fits c.try_extend_from_slice.ensures.ok in
    rw (← c.self.view_is) (part_waits r (record r { pending = c.try_extend_from_slice.new.self.items })
    c.args.rest.now fine c.requires.some short
    (ap (λ (xs : List ℕ). record r { pending = xs }) longer))

pub returns-in-Ok-clause-takes : goal.returns-in-Ok-clause-takes
returns-in-Ok-clause-takes c =
    let part : length c.args.self.now.pending < stage_len c.args.self.now.progress.header
    c.args.self.now.progress.stage = rw (← c.self.view_is) c.self.invariant.part in
    let n : c.lacks-lacks.result ≡ lacks c.args.self.now = omega (arith, c.lacks-lacks.ensures.step) in
    part_ends c.args.self.now c.end_step.new.self c.args.rest.now c.lacks-lacks.result n c.requires.fine
    part c.if-rest-lacks.false tt c.in-Ok.ensures.takes

pub returns-in-Err-clause-takes : goal.returns-in-Err-clause-takes
returns-in-Err-clause-takes c =
    let part : length c.args.self.now.pending < stage_len c.args.self.now.progress.header
    c.args.self.now.progress.stage = rw (← c.self.view_is) c.self.invariant.part in
    let n : c.lacks-lacks.result ≡ lacks c.args.self.now = omega (arith, c.lacks-lacks.ensures.step) in
    part_ends_badly c.args.self.now c.end_step.new.self c.args.rest.now (c.lacks-lacks.result)
    c.in-Err.fault n c.requires.fine part c.if-rest-lacks.false c.in-Err.ensures.takes
