use Rattle.std.proofs.Common.{refl, ◌++◌, ◌∙◌, Some, ap, sym, inr}
use Rattle.lf_codec.specs.declared.fault.CodecFault.{CodecFault}
use Rattle.text_dump.proofs.Faults.{ends_badly}
use Rattle.text_assemble.specs.Assembly.{ended}
use Rattle.text_assemble.proofs.draft.Draft.finish.Goals as goal

pub returns-in-Err-clause-assembles : goal.returns-in-Err-clause-assembles
returns-in-Err-clause-assembles c =
    let bytes = c.args.self.bytes.items in
    let ends = c.in-Err.ensures.ends bytes c.requires.memory c.requires.records c.requires.read in
    let fault = ends_badly bytes _ c.in-Err.told (sym ends) ∙ ap (λ (f : CodecFault). Some f) (sym c.fault.ensures) in
    inr (ap (ended c.args.line bytes) fault)

pub returns-in-Ok-clause-trace : goal.returns-in-Ok-clause-trace
returns-in-Ok-clause-trace c =
    let bytes = c.args.self.bytes.items in
    let trace = c.in-Ok.ensures.trace bytes c.requires.memory c.requires.records c.requires.read c.in-Ok.field-0 in
    record {
      header = c.in-Ok.field-0;
      memory = c.requires.memory ++ c.args.self.reader.memory;
      records = c.requires.records ++ c.args.self.reader.records;
      trace = trace.0 refl;
    }
