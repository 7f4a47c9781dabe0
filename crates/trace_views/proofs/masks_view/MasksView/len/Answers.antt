use Rattle.std.proofs.Common.{length, ◌/◌, sym}
use Rattle.trace_views.proofs.Spelled.{spelled_len}
use Rattle.trace_views.proofs.masks_view.MasksView.len.Goals as goal

pub returns-in-Spelled : goal.returns-in-Spelled
returns-in-Spelled c = rw c.in-Spelled.is (sym (spelled_len (length c.in-Spelled.bytes.now / 8) c.in-Spelled.bytes.now))
