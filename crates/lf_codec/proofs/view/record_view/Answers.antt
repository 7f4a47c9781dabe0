use Rattle.lf_codec.proofs.Lending.{can_be_kept}
use Rattle.lf_codec.proofs.view.record_view.Goals as goal

pub new-requires : goal.new-requires
new-requires c =
    let a = c.args in
    rw (c.event_view-event.ensures, c.requires.kind) (can_be_kept a.header.now a.head.kind a.fixed.now a.bytes.now
    c.requires.parts)
