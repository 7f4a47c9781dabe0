use Rattle.std.proofs.Common.{◌≡◌, sym, ◌∙◌, subst}
use Rattle.lf_rules.specs.declared.rule.Rule.TheVariants.{WrongRegister}
use Rattle.lf_rules.specs.declared.shape.Shape.{Shape}
use Rattle.lf_rules.specs.Outcomes.{first_local}
use Rattle.lf_replay.specs.Step.{bank_after}
use Rattle.explain_replay.specs.Expected.{IsExpected}
use Rattle.explain_replay.proofs.expected.expected_of.Goals as goal

pub returns-in-ReplyData : goal.returns-in-ReplyData
returns-in-ReplyData c = rw c.in-ReplyData.is c.of_reply.ensures

pub returns-in-FillData : goal.returns-in-FillData
returns-in-FillData c = rw c.in-FillData.is c.of_fill.ensures

pub returns-in-EvictMask : goal.returns-in-EvictMask
returns-in-EvictMask c = rw c.in-EvictMask.is c.of_mask.ensures

pub returns-in-EvictData : goal.returns-in-EvictData
returns-in-EvictData c = rw c.in-EvictData.is c.of_eviction.ensures

pub returns-in-ReplySize : goal.returns-in-ReplySize
returns-in-ReplySize c = rw c.in-ReplySize.is c.of_size.ensures

pub returns-in-WrongRegister : goal.returns-in-WrongRegister
returns-in-WrongRegister c = λ shape memory bank rs stands.
    let now = bank_after shape (first_local memory) rs in
    let event = c.args.item.now.event in
    let log = c.args.item.now.log in
    let same : c.args.shape.now ≡ shape = sym c.requires.shape ∙ stands.state.of_shape in
    rw c.in-WrongRegister.is (subst (λ (s : Shape). IsExpected c.of_register.result WrongRegister log event s now) same
    (c.of_register.ensures now))
