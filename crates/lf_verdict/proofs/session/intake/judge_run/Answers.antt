use Rattle.std.proofs.Common.{◌++◌, take, inr, refl, sym, ap, subst, ◌∙◌, arith}
use Rattle.lf_rules.specs.Address.{flat_memory}
use Rattle.lf_codec.specs.Reading.{Reading}
use Rattle.lf_verdict.specs.Breaking.{first_offset}
use Rattle.lf_verdict.specs.inner.Taking.{RunsOn}
use Rattle.lf_verdict.proofs.Feeding.{rest_of, rest_len}
use Rattle.lf_verdict.proofs.Lent.{lent_may_come, lent_ends, lent_run, runs_nothing, runs_further, bytes_at}
use Rattle.lf_verdict.proofs.session.intake.judge_run.Goals as goal

pub loop-n-init : goal.loop-n-init
loop-n-init c = record {
  within = omega arith;
  lends = c.requires.lends;
  fault = refl;
  run = runs_nothing c.args.reader.now c.args.standing.now;
  known = λ known. known;
  counts = λ counts. counts;
}

pub take-requires-clause-next : goal.take-requires-clause-next
take-requires-clause-next c =
    let r = c.requires.can in
    let bytes = c.args.bytes.now in
    let at = c.loop-n.at in
    let m = c.loop-n.invariant.run r.shape r.ordered r.bytes r.memory r.records r.read r.run in
    let piece = take c.in-Some.n (rest_of bytes at) in
    let fed = r.bytes ++ take at bytes in
    record {
      shape = r.shape;
      memory = flat_memory r.memory;
      records = m.0;
      may = lent_may_come c.read_so_far.ensures c.header_of_bytes.ensures r.shape fed piece r.memory m.0
          c.lend.new.self c.loop-n.standing c.lend.new.place (c.in-Some.ensures.lent fed r.memory m.0 m.1.0) m.1.1;
      stands = m.1.1.stands;
    }

pub take-requires-clause-range : goal.take-requires-clause-range
take-requires-clause-range c =
    let r = c.requires.can in
    let bytes = c.args.bytes.now in
    let at = c.loop-n.at in
    let m = c.loop-n.invariant.run r.shape r.ordered r.bytes r.memory r.records r.read r.run in
    let piece = take c.in-Some.n (rest_of bytes at) in
    let fed = r.bytes ++ take at bytes in
    lent_ends c.read_so_far.ensures c.header_of_bytes.ensures r.shape fed piece r.memory m.0
    c.lend.new.self c.loop-n.standing c.lend.new.place (c.in-Some.ensures.lent fed r.memory m.0 m.1.0) m.1.1

pub take-requires-clause-spelled : goal.take-requires-clause-spelled
take-requires-clause-spelled c =
    inr (bytes_at c.args.bytes.now c.loop-n.at c.in-Some.n ∙ c.in-Some.ensures.spelled)

pub loop-n-preserved : goal.loop-n-preserved
loop-n-preserved c =
    let bytes = c.args.bytes.now in
    let at = c.loop-n.at in
    let before = c.loop-n.invariant in
    let piece = take c.in-Some.n (rest_of bytes at) in
    let new = c.lend.new.self in
    let after = c.take.new.self in
    record {
      within = omega (arith, c.in-Some.ensures.some.1, rest_len bytes at, before.within);
      lends = c.in-Some.ensures.again;
      fault = ap (λ (r : Reading). r.fault) c.in-Some.ensures.rest ∙ before.fault;
      run = runs_further c.args.reader.now c.args.standing.now bytes at c.in-Some.n c.loop-n.reader c.loop-n.standing
          new after before.run (λ shape ordered fed memory records read run.
          let here = c.in-Some.ensures.lent fed memory records read in
          let may = lent_may_come c.read_so_far.ensures c.header_of_bytes.ensures shape fed piece memory records new
          c.loop-n.standing c.lend.new.place here run in
          lent_run c.read_so_far.ensures c.header_of_bytes.ensures shape fed piece memory records new
          c.loop-n.standing c.lend.new.place here run after
          (c.in_ok-take.ensures.judged shape (flat_memory memory) records may run.stands)
          (c.in_ok-take.ensures.watched (first_offset run.header memory) shape (flat_memory memory) records may
          run.stands run.watched) c.in_ok-take.ensures.keeps);
      known = λ known. c.take.ensures.known (before.known known);
      counts = λ counts. c.take.ensures.counts (before.counts counts);
    }

pub returns-clause-judged : goal.returns-clause-judged
returns-clause-judged c =
    subst (λ (r : Reading). RunsOn c.args.reader.now c.args.standing.now (take c.loop-n.at c.args.bytes.now) r
    c.loop-n.standing) (sym c.in_default.ensures.none) c.loop-n.invariant.run
