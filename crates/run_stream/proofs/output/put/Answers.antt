use Rattle.std.proofs.Common.{◌≡◌, ◌++◌, take, rules, subst, refl, append-nil, []}
use Rattle.run_stream.specs.Account.{WentOut}
use Rattle.run_stream.proofs.OutputLemmas.{moves_front, nothing_out, prefix_out, same_out, more_out}
use Rattle.run_stream.proofs.output.put.Goals as goal

pub loop-rest-init : goal.loop-rest-init
loop-rest-init g c = record { failures = c.requires; done = []; split = refl; out = nothing_out _ }

pub returns-in-Ok-eq0-clause-prefix : goal.returns-in-Ok-eq0-clause-prefix
returns-in-Ok-eq0-clause-prefix g c =
    let so_far = c.loop-rest.invariant in
    let piece = take c.in-Ok-eq0.field-0 c.loop-rest.rest.now in
    let zero : c.in-Ok-eq0.field-0 ≡ 0 = search rules in
    let none : so_far.done ++ piece ≡ so_far.done = rw zero (append-nil so_far.done) in
    prefix_out _ _ _ so_far.done _ so_far.split
    (subst (WentOut _ _) none
    (more_out _ _ _ so_far.done so_far.out piece c.in-Ok-eq0.ensures.taken c.in-Ok-eq0.ensures.bytes))

pub returns-in-Err-clause-prefix : goal.returns-in-Err-clause-prefix
returns-in-Err-clause-prefix g c =
    let so_far = c.loop-rest.invariant in
    prefix_out _ _ _ so_far.done _ so_far.split
    (same_out _ _ _ so_far.done so_far.out c.in-Err.ensures.taken c.in-Err.ensures.bytes)

pub loop-rest-preserved : goal.loop-rest-preserved
loop-rest-preserved g c =
    let so_far = c.loop-rest.invariant in
    let rest = c.loop-rest.rest.now in
    let n = c.in-Ok.n in
    record {
      failures = search rules;
      done = so_far.done ++ take n rest;
      split = moves_front _ so_far.done rest n so_far.split;
      out = more_out _ _ _ so_far.done so_far.out (take n rest) c.in-Ok.ensures.taken c.in-Ok.ensures.bytes;
    }
