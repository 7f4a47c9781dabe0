use Rattle.std.proofs.Common.{[], sym, subst}
use Rattle.run_stream.specs.Account.{WentOut}
use Rattle.run_stream.specs.Counted.{account_of}
use Rattle.wave_draw.specs.declared.drawing.Drawing.{Drawing}
use Rattle.wave_draw.specs.Viewing.{drawing_of, wave_of, IsDrawn}
use Rattle.wave_draw.proofs.Pieces.{draws_itself}
use Rattle.wave_draw.proofs.Viewed.{no_room, viewed_to_end, viewed_until}
use Rattle.wave_draw.proofs.viewing.view.Goals as goal

pub returns-in_default : goal.returns-in_default
returns-in_default g c =
    no_room c.args.drawing (account_of g.R.Read.remaining c.args.reader.now)
    (account_of g.W.Write.contents c.args.writer.now) c.args.turns c.requires.calls c.requires.failures
    c.requires.writes

pub view_pieces-requires-clause-fresh : goal.view_pieces-requires-clause-fresh
view_pieces-requires-clause-fresh g c =
    let drawer = c.new-drawer.result in
    subst (λ (d : Drawing). IsDrawn d [] drawer) (sym (draws_itself c.args.drawing drawer c.new-drawer.ensures))
    c.new-drawer.ensures

pub returns-in-Ok-view_pieces : goal.returns-in-Ok-view_pieces
returns-in-Ok-view_pieces g c =
    let drawing = c.args.drawing in
    let told = c.in-Ok-view_pieces.ensures in
    let same = draws_itself drawing c.new-drawer.result c.new-drawer.ensures in
    let all = told.all in
    let drawn = subst (λ (d : Drawing). IsDrawn d all.0 c.view_pieces.new.drawer) same all.1 in
    viewed_to_end drawing (account_of g.R.Read.remaining c.args.reader.now)
    (account_of g.R.Read.remaining c.view_pieces.new.source) (account_of g.W.Write.contents c.args.writer.now)
    (account_of g.W.Write.contents c.view_pieces.new.writer) c.args.turns told.reads told.once told.read told.write
    all.0 drawn.read.are_bytes all.2 (subst (λ (d : Drawing). WentOut (account_of g.W.Write.contents c.args.writer.now)
    (account_of g.W.Write.contents c.view_pieces.new.writer) (wave_of d all.0)) same all.3) c.close.result
    (c.close.ensures drawing all.0 drawn)

pub returns : goal.returns
returns g c =
    let drawer = c.new-drawer.result in
    let told = c.in-Err.ensures in
    viewed_until c.args.drawing (drawing_of drawer)
    (draws_itself c.args.drawing drawer c.new-drawer.ensures) _ _ _ _
    c.args.turns told.reads told.once c.in-Err.fault told.stopped told.read told.turns told.write
