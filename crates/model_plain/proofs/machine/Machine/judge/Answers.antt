use Rattle.std.proofs.Common.{arith}
use Rattle.lf_rules.specs.State.{seen_by}
use Rattle.model_plain.specs.Plain.{state_of}
use Rattle.model_plain.proofs.PlainSteps.{fence_if, judged_fence}
use Rattle.model_plain.proofs.machine.Machine.judge.Goals as goal

pub returns-then-bank-len : goal.returns-then-bank-len
returns-then-bank-len c =
    judged_fence c.args.self.now.shape (seen_by c.args.item.now.log c.args.item.now.bank (state_of c.args.self.now))
    c.args.item.now c.judge_fence.result
    (fence_if c.args.self.now.shape c.args.item.now c.requires.fits (omega (arith, c.requires.machine.banks)))
    (rw (← c.deref.ensures.value) c.judge_fence.ensures)
