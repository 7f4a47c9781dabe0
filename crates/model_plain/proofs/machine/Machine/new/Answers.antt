use Rattle.std.proofs.Common.{◌≡◌, ◌∙◌, ap}
use Rattle.lf_rules.specs.Address.{flat_memory}
use Rattle.bank_state.specs.Bytes.{flat_of}
use Rattle.model_plain.proofs.PlainStart.{opened}
use Rattle.model_plain.proofs.machine.Machine.new.Goals as goal

pub returns-clause-state : goal.returns-clause-state
returns-clause-state c =
    let memory : flat_of c.in_ok-new.field-0 ≡ flat_memory c.args.memory.now.items =
    c.in_ok-new.ensures ∙ ap flat_memory c.deref.ensures.value in
    rw c.new-2.ensures.items
    (opened c.in_ok-new.field-0 _ c.in_ok-new_slices.field-0.items memory c.in_ok-new_slices.ensures.empty)
