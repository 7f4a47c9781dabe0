use Rattle.std.proofs.Common.{ℕ, List, Option, refl, sym, subst}
use Rattle.explain_lines.specs.Marks.{told_by}
use Rattle.lf_verdict.specs.declared.answer.Fault.{Fault}
use Rattle.explain_why.specs.Cause.{HasBankOf, IsCause}
use Rattle.explain_why.proofs.BrokenSoFar.{has_memory, bank_of_first, packed_fits, is_broken_by}
use Rattle.explain_why.proofs.broken_before.broken_by.Goals as goal

pub packed_so_far-requires : goal.packed_so_far-requires
packed_so_far-requires c =
    has_memory c.args.shape.now c.args.bytes.now c.args.fault.now c.args.upon c.requires.first

pub cause_of-requires-clause-bank : goal.cause_of-requires-clause-bank
cause_of-requires-clause-bank c =
    subst (λ (fault : Fault). HasBankOf c.args.shape.now fault) (sym c.as_fault.ensures)
    (bank_of_first c.args.shape.now c.args.bytes.now c.args.fault.now c.args.upon c.requires.first)

pub cause_of-requires-clause-fit : goal.cause_of-requires-clause-fit
cause_of-requires-clause-fit c =
    packed_fits c.args.shape.now c.args.bytes.now c.args.fault.now c.args.upon c.requires.first
    c.in_ok-memory.field-0 c.in_ok-memory.ensures

pub returns : goal.returns
returns c =
    let packing = c.in_ok-memory.field-0 in
    let has = c.in_ok-memory.ensures in
    let time : ℕ → ℕ → Option (List ℕ) = told_by c.args.asked.now.times in
    is_broken_by c.args.shape.now c.args.bytes.now c.args.fault.now c.args.upon c.requires.first packing has time
    c.args.asked.now.most _ refl (c.in_ok-marks.ensures has.ends)
    (subst (λ (fault : Fault). IsCause c.args.shape.now packing.memory.items packing.records.records
    c.args.asked.now.most fault c.in_ok-cause.cause) c.as_fault.ensures c.in_ok-cause.ensures) refl
