use Rattle.std.proofs.Common.{ℕ, [], refl, subst}
use Rattle.lf_rules.specs.declared.outcome.Outcome.TheVariants as outcomes
use Rattle.lf_rules.specs.Address.{flat_memory}
use Rattle.lf_replay.specs.Bytes.{bank_part}
use Rattle.lf_replay.specs.Step.{IsStepAfter}
use Rattle.lf_verdict.specs.declared.session.standing.bank_judge.BankJudge.{BankJudge}
use Rattle.lf_verdict.proofs.Judges.{settled_none}
use Rattle.lf_verdict.proofs.session.standing.bank_judge.BankJudge.new.Goals as goal

pub returns-clause-settled : goal.returns-clause-settled
returns-clause-settled c =
    let shape = c.args.shape.now in
    let judge : BankJudge = record {
      order = c.of_shape-order.result;
      step = c.in_ok-step.step;
      outcome = outcomes.Passed;
      count = c.in_ok-count.count;
    } in
    let memory = flat_memory c.args.memory.now.items in
    settled_none shape (bank_part shape c.args.bank memory) c.args.bank judge
    c.of_shape-order.ensures.bank c.of_shape-order.ensures.header c.of_shape-order.ensures.nothing refl
    (subst (λ (n : ℕ). IsStepAfter judge.step shape (bank_part shape n memory) n []) c.from.ensures
    c.in_ok-step.ensures) c.in_ok-count.ensures.counted

pub returns-clause-counts : goal.returns-clause-counts
returns-clause-counts c is = c.in_ok-count.ensures.some is
