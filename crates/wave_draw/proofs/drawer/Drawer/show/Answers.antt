use Rattle.std.proofs.Common.{refl}
use Rattle.lf_codec.specs.Reading.{reading_of}
use Rattle.wave_draw.specs.declared.drawer.Drawer.{Drawer}
use Rattle.wave_draw.proofs.Pieces.{room_now, drawn_now, wave_now}
use Rattle.wave_draw.proofs.drawer.Drawer.show.Goals as goal

pub draw-requires : goal.draw-requires
draw-requires c =
    let mid : Drawer = record {
      reader = c.feed.new.reader;
      times = c.args.self.now.times;
      order = c.args.self.now.order;
      wave = c.args.self.now.wave;
      text =
          c.clear.new.self;
      begun = c.args.self.now.begun;
    } in
    let drawing = c.requires.0 in
    let bytes = c.requires.1 in
    let drawn = c.requires.2 in
    let has = c.in_ok-enough.ensures.read bytes (reading_of bytes).memory (reading_of bytes).records drawn.read in
    room_now drawing bytes c.args.piece.now c.args.self.now mid drawn has refl refl refl refl c.requires.3

pub returns-clause-drawn : goal.returns-clause-drawn
returns-clause-drawn c drawing bytes drawn =
    let mid : Drawer = record {
      reader = c.feed.new.reader;
      times = c.args.self.now.times;
      order = c.args.self.now.order;
      wave = c.args.self.now.wave;
      text =
          c.clear.new.self;
      begun = c.args.self.now.begun;
    } in
    let has = c.in_ok-enough.ensures.read bytes (reading_of bytes).memory (reading_of bytes).records drawn.read in
    drawn_now drawing bytes c.args.piece.now c.args.self.now mid drawn has refl refl refl refl c.draw.new.self
    (c.in_ok-draw.ensures (reading_of bytes).records drawn.come)

pub returns-clause-wave : goal.returns-clause-wave
returns-clause-wave c drawing bytes drawn =
    let mid : Drawer = record {
      reader = c.feed.new.reader;
      times = c.args.self.now.times;
      order = c.args.self.now.order;
      wave = c.args.self.now.wave;
      text =
          c.clear.new.self;
      begun = c.args.self.now.begun;
    } in
    let has = c.in_ok-enough.ensures.read bytes (reading_of bytes).memory (reading_of bytes).records drawn.read in
    wave_now drawing bytes c.args.piece.now c.args.self.now mid drawn has refl refl refl refl c.draw.new.self
    (c.in_ok-draw.ensures (reading_of bytes).records drawn.come) c.clear.ensures.bytes
