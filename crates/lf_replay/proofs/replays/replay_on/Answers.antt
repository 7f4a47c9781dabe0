use Rattle.std.proofs.Common.{take, map, sym, subst, ◌∙◌, arith, List}
use Rattle.std.proofs.lemmas.List.{length-map, take_all}
use Rattle.lf_rules.specs.declared.event.Record.{Record}
use Rattle.lf_rules.specs.declared.outcome.Outcome.TheVariants as outcome
use Rattle.lf_rules.specs.declared.shape.Shape.{Shape}
use Rattle.lf_rules.specs.Address.{flat_memory}
use Rattle.lf_rules.specs.Fits.{Fits}
use Rattle.lf_rules.specs.Outcomes.{first_local}
use Rattle.lf_rules.specs.Run.{IsRunOf}
use Rattle.lf_rules.specs.Table.{OfBank}
use Rattle.bank_state.specs.Bytes.{bank_part}
use Rattle.lf_replay.proofs.Runs.{lent_count, lent_at, stands_next, breaks_at, all_at, outcome_same}
use Rattle.lf_replay.proofs.replays.replay_on.Goals as goal

pub apply-requires-clause-fits : goal.apply-requires-clause-fits
apply-requires-clause-fits g c =
    let lent = g.R.Lends.lent in
    let i = c.loop-place.place-index in
    let lt = lent_count lent c.args.records.now i c.loop-place-test.true in
    let is = lent_at lent c.args.records.now i c.place-item.result c.of-item.result c.loop-place-test.true
    c.place-item.is (c.of-item.ensures ∙ c.lend.ensures) in
    subst (λ (s : Shape). Fits s c.of-item.result) (sym c.loop-place.invariant.after.of_shape)
    (all_at (Fits c.args.shape.now) (map lent c.args.records.now) i c.of-item.result c.requires.records.fit lt is)

pub loop-place-preserved : goal.loop-place-preserved
loop-place-preserved g c =
    let lent = g.R.Lends.lent in
    let i = c.loop-place.place-index in
    let rs = map lent c.args.records.now in
    let memory = bank_part c.args.shape.now c.args.bank (flat_memory c.args.memory.now.items) in
    let lt = lent_count lent c.args.records.now i c.loop-place-test.true in
    let is = lent_at lent c.args.records.now i c.place-item.result c.of-item.result c.loop-place-test.true
    c.place-item.is (c.of-item.ensures ∙ c.lend.ensures) in
    record {
      reached = c.in-Ok-apply.ensures.reached;
      after = stands_next (g.B.BankState.view c.apply.new.self) c.args.shape.now memory rs i c.of-item.result lt
          is
          (c.in-Ok-apply.ensures.stands c.args.shape.now memory (take i rs) c.loop-place.invariant.after);
    }

pub returns-in-Err-Rule : goal.returns-in-Err-Rule
returns-in-Err-Rule g c =
    let lent = g.R.Lends.lent in
    let i = c.loop-place.place-index in
    let rs = map lent c.args.records.now in
    let whole = flat_memory c.args.memory.now.items in
    let memory = bank_part c.args.shape.now c.args.bank whole in
    let lt = lent_count lent c.args.records.now i c.loop-place-test.true in
    let is = lent_at lent c.args.records.now i c.place-item.result c.of-item.result c.loop-place-test.true
    c.place-item.is (c.of-item.ensures ∙ c.lend.ensures) in
    let broken = c.in-Err-Rule.ensures.broken c.args.shape.now memory (take i rs) c.loop-place.invariant.after in
    rw (c.in-Err-Rule.rule-is, c.number.ensures) (outcome_same c.args.shape.now c.args.bank whole rs c.requires.records
    (outcome.Broken c.of-item.result.number c.in-Err-Rule.rule)
    (breaks_at c.args.shape.now memory rs i c.of-item.result c.in-Err-Rule.rule lt
    is c.requires.records.numbered (rw c.in-Err-Rule.field-0-is at broken)))

pub returns : goal.returns
returns g c =
    let i = c.loop-place.place-index in
    let rs = map g.R.Lends.lent c.args.records.now in
    let whole = flat_memory c.args.memory.now.items in
    let memory = bank_part c.args.shape.now c.args.bank whole in
    let all = take_all i rs (omega (arith, length-map c.args.records.now g.R.Lends.lent, c.loop-place-test.false)) in
    outcome_same c.args.shape.now c.args.bank whole rs c.requires.records outcome.Passed
    (subst (λ (xs : List Record). IsRunOf OfBank c.args.shape.now (first_local memory) xs) all
    c.loop-place.invariant.after.is_run)
