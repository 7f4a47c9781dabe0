use Rattle.std.proofs.Common.{[], refl, sym, ap, ◌∙◌}
use Rattle.lf_codec.specs.Reading.{Reading}
use Rattle.wave_signals.specs.Wave.{undrawn, drawn_after}
use Rattle.wave_order.proofs.Ordered.{none_drawn}
use Rattle.wave_draw.proofs.drawer.Drawer.new.Goals as goal

pub returns : goal.returns
returns c = record {
  read = c.new.ensures;
  no_memory = sym (ap (λ (q : Reading). q.memory) c.new.ensures.same);
  no_records = sym (ap (λ (q : Reading). q.records) c.new.ensures.same);
  begun = refl;
  times = refl;
  order = c.order_for.ensures.named;
  come = c.order_for.ensures.come;
  wave = c.new-2.ensures
      ∙ sym (ap (drawn_after (undrawn c.args.drawing.view)) (none_drawn c.args.drawing.order [] refl));
}
