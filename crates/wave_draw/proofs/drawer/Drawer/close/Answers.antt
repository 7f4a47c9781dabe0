use Rattle.std.proofs.Common.{◌∙◌, Some, ap, sym}
use Rattle.lf_codec.specs.declared.fault.CodecFault.{CodecFault}
use Rattle.lf_codec.specs.Reading.{reading_of}
use Rattle.text_dump.proofs.Faults.{ends_badly}
use Rattle.wave_draw.proofs.drawer.Drawer.close.Goals as goal

pub returns-in-Err : goal.returns-in-Err
returns-in-Err c drawing bytes drawn =
    let is = ap (λ (f : CodecFault). Some f) c.fault.ensures
    ∙ sym (ends_badly bytes _ c.in-Err.told (sym (c.in-Err.ensures.ends bytes (reading_of bytes).memory
    (reading_of bytes).records drawn.read))) in
    (is, λ none. absurd cc)
