use Rattle.std.proofs.Common.{◌++◌, ◌∙◌, ◌≢◌, Some, ap, sym, inr, rules, option_to_list}
use Rattle.lf_codec.specs.declared.fault.CodecCause.TheVariants.{NoMemory}
use Rattle.lf_codec.specs.declared.fault.CodecFault.{CodecFault}
use Rattle.lf_codec.specs.Reader.{fault_in}
use Rattle.lf_codec.specs.Reading.{Reading}
use Rattle.text_dump.proofs.Faults.{unless_out}
use Rattle.text_assemble.proofs.Judging.{taken_is_fine}
use Rattle.text_assemble.proofs.draft.judge.Goals as goal

pub returns-in-Ok : goal.returns-in-Ok
returns-in-Ok c = λ bytes so_far.
    let fed = bytes ++ c.args.piece.now in
    let read = c.in-Ok.ensures.ok bytes so_far.memory so_far.records so_far.read in
    let second = c.take_memory.ensures.taken fed so_far.memory so_far.records read in
    let memory = so_far.memory ++ option_to_list c.take_memory.result in
    record {
      memory = memory;
      records = so_far.records ++ option_to_list c.take.result;
      read = c.take.ensures.taken fed memory so_far.records second;
      fine = ap (λ (r : Reading). r.fault) read.same ∙ taken_is_fine c.args.reader.now.fault c.feed.new.self.fault
          c.in-Ok.ensures.told;
    }

pub returns-in_default : goal.returns-in_default
returns-in_default c = λ bytes so_far.
    let f = fault_in c.in-Err.told in
    let other : f.cause ≢ NoMemory = search rules in
    let failed = (c.in-Err.ensures.refused bytes so_far.memory so_far.records so_far.read).failed in
    let read = unless_out c.feed.new.self (bytes ++ c.args.piece.now) so_far.memory so_far.records f
    (c.feed.ensures.pieces bytes so_far.memory so_far.records so_far.read) failed other in
    inr (record {
      fault = c.fault.result;
      there = ap (λ (r : Reading). r.fault) read.same ∙ failed ∙ ap (λ (g : CodecFault). Some g) (sym c.fault.ensures);
      is = search rules;
    })
