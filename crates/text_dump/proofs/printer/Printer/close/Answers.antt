use Rattle.std.proofs.Common.{◌++◌, ◌∙◌, ℕ, List, Some, ap, sym}
use Rattle.lf_codec.specs.declared.fault.CodecFault.{CodecFault}
use Rattle.lf_codec.specs.Reading.{reading_of}
use Rattle.text_dump.specs.Lines.{closing}
use Rattle.text_dump.proofs.Faults.{ends_badly}
use Rattle.text_dump.proofs.Placing.{closing_is}
use Rattle.text_dump.proofs.printer.Printer.close.Goals as goal

pub returns-in_ok-put_fault-in-Err-clause-fault : goal.returns-in_ok-put_fault-in-Err-clause-fault
returns-in_ok-put_fault-in-Err-clause-fault c bytes shown =
    ap (λ (f : CodecFault). Some f) c.fault-fault.ensures
    ∙ sym (ends_badly bytes _ c.in-Err.told (sym (c.in-Err.ensures.ends bytes (reading_of bytes).memory
    (reading_of bytes).records shown.read)))

pub returns-in_ok-put_fault-in-Err-clause-text : goal.returns-in_ok-put_fault-in-Err-clause-text
returns-in_ok-put_fault-in-Err-clause-text c bytes shown =
    let printer = c.args.self.now in
    let fault = c.fault-fault.result in
    let same = ap (λ (f : CodecFault). Some f) c.fault-fault.ensures
    ∙ sym (ends_badly bytes _ c.in-Err.told (sym (c.in-Err.ensures.ends bytes (reading_of bytes).memory
    (reading_of bytes).records shown.read))) in
    c.in_ok-put_fault-in-Err.ensures
    ∙ ap (λ (t : List ℕ). t ++ closing (Some fault) printer.records printer.offset) c.clear.ensures.bytes
    ∙ closing_is bytes printer (Some fault) shown same
