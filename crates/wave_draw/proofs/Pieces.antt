-- What one more piece adds to the wave.
use Rattle.std.proofs.Common.{◌≡◌, ℕ, ◌+◌, ◌^◌, ◌<◌, Bool, List, [], ◌∷◌, ◌++◌, length, Option, Some}
use Rattle.std.proofs.Common.{None, refl, sym, ap, subst, ◌∙◌, append_assoc, arith, inl, inr}
use Rattle.std.proofs.Common.{string_bytes}
use Rattle.std.specs.Global.{Vec}
use Rattle.std.specs.Prelude.{is_some}
use Rattle.std.proofs.lemmas.List.{length-append}
use Rattle.lf_rules.specs.declared.event.Record.{Record}
use Rattle.lf_codec.specs.declared.header.Header.{Header}
use Rattle.lf_codec.specs.Reader.{HasRead}
use Rattle.lf_codec.specs.Reading.{Reading, reading_of, nothing_read, header_of, header_now}
use Rattle.lf_codec.proofs.Bytes.{read_on-append}
use Rattle.text_dump.proofs.Order.{Follows, follows, orderly}
use Rattle.text_dump.proofs.Lengths.{header_cases, count_within}
use Rattle.text_dump.proofs.Pieces.{all_taken}
use Rattle.wave_order.specs.declared.clock.Clock.{Clock}
use Rattle.wave_signals.specs.declared.view.View.{View}
use Rattle.wave_signals.specs.Wave.{Drawn, undrawn, next, next_shown, drawn_after, wave_from}
use Rattle.wave_draw.specs.declared.drawer.Drawer.{Drawer}
use Rattle.wave_draw.specs.declared.order.Order.{Order}
use Rattle.wave_order.specs.Ordered.{drawn_of}
use Rattle.wave_draw.specs.Turns.{order_of, HasComeTo, HasRoom}
use Rattle.wave_draw.specs.declared.drawing.Drawing.{Drawing}
use Rattle.wave_draw.specs.Viewing.{head_in, wave_of, IsDrawn, drawing_of, head_due, or_header, DrawsAll}
use Rattle.wave_order.proofs.Ordered.{none_drawn}

-- ---- records one behind another

drawn_after-append : (wave : Drawn) (xs ys : List Record) →
    drawn_after wave (xs ++ ys) ≡ drawn_after (drawn_after wave xs) ys
drawn_after-append wave [] ys = refl
drawn_after-append wave (x ∷ xs) ys = drawn_after-append (next wave x) xs ys

wave_from-append : (times : Option Clock) (wave : Drawn) (xs ys : List Record) → wave_from times wave (xs ++ ys)
    ≡ wave_from times wave xs ++ wave_from times (drawn_after wave xs) ys
wave_from-append times wave [] ys = refl
wave_from-append times wave (x ∷ xs) ys =
    ap (λ (l : List ℕ). next_shown times wave x ++ l) (wave_from-append times (next wave x) xs ys)
    ∙ sym (append_assoc (next_shown times wave x) (wave_from times (next wave x) xs)
    (wave_from times (drawn_after (next wave x) xs) ys))

place_after : (wave : Drawn) (xs : List Record) → (drawn_after wave xs).place ≡ wave.place + length xs
place_after wave [] = omega arith
place_after wave (x ∷ xs) = omega (arith, place_after (next wave x) xs)

view_after : (wave : Drawn) (xs : List Record) → (drawn_after wave xs).view ≡ wave.view
view_after wave [] = refl
view_after wave (x ∷ xs) = view_after (next wave x) xs

-- what a drawer draws
pub drawing_same : (drawer : Drawer) (drawing : Drawing) → drawer.wave.view ≡ drawing.view →
    drawer.times ≡ drawing.times → order_of drawer.order ≡ drawing.order → drawing_of drawer ≡ drawing
drawing_same drawer drawing view times order =
    ap (λ (v : View). record { view = v; times = drawer.times; order = order_of drawer.order }) view
    ∙ ap (λ (t : Option Clock). record { view = drawing.view; times = t; order = order_of drawer.order }) times
    ∙ ap (λ (o : Option (Vec ℕ)). record { view = drawing.view; times = drawing.times; order = o }) order

-- ---- one more piece

module _ (drawing : Drawing) (bytes piece : List ℕ) (due : List Record)
    (more : drawn_of drawing.order (reading_of (bytes ++ piece)).records
    ≡ drawn_of drawing.order (reading_of bytes).records ++ due) where
  abbrev drawn : List Record
  drawn = drawn_of drawing.order (reading_of bytes).records

  then : Follows (reading_of bytes) (reading_of (bytes ++ piece))
  then = subst (λ (q : Reading). Follows (reading_of bytes) q) (sym (read_on-append bytes piece nothing_read))
      (follows piece (reading_of bytes))

  -- what is put after the bytes
  abbrev put : Option Header → Option Header → List ℕ
  put old new = head_due (is_some old) drawing new
      ++ wave_from drawing.times (drawn_after (undrawn drawing.view) drawn) due

  all_records : wave_from drawing.times (undrawn drawing.view)
      (drawn_of drawing.order (reading_of (bytes ++ piece)).records)
      ≡ wave_from drawing.times (undrawn drawing.view) drawn
      ++ wave_from drawing.times (drawn_after (undrawn drawing.view) drawn) due
  all_records = ap (wave_from drawing.times (undrawn drawing.view)) more
      ∙ wave_from-append drawing.times (undrawn drawing.view) drawn due

  behind_header : (h : Header) → header_of bytes ≡ Some h → header_of (bytes ++ piece) ≡ Some h
      → wave_of drawing (bytes ++ piece) ≡ wave_of drawing bytes ++ put (header_of bytes) (header_of (bytes ++ piece))
  behind_header h old new =
      let front = head_in drawing (Some h) in
      let first = wave_from drawing.times (undrawn drawing.view) drawn in
      let last = wave_from drawing.times (drawn_after (undrawn drawing.view) drawn) due in
      rw (old, new, all_records) (sym (append_assoc front first last))

  from_header : header_of bytes ≡ None → wave_of drawing (bytes ++ piece) ≡ wave_of drawing bytes
      ++ put (header_of bytes) (header_of (bytes ++ piece))
  from_header none =
      let empty : drawn ≡ [] =
      none_drawn drawing.order (reading_of bytes).records ((orderly bytes).unread none).1 in
      rw (none, all_records, empty) refl

  pub more_wave : wave_of drawing (bytes ++ piece) ≡ wave_of drawing bytes
      ++ put (header_of bytes) (header_of (bytes ++ piece))
  more_wave =
      elim (header_cases (header_of bytes)) [
        | inl none ↦ from_header none
        | inr there ↦
            elim then.header [
              | inl none ↦ from_header none
              | inr kept ↦ behind_header there.0 there.1 (kept ∙ there.1)
            ]
      ]

  -- whether the header is there
  pub more_header : is_some (header_of (bytes ++ piece)) ≡ or_header (is_some (header_of bytes))
      (header_of (bytes ++ piece))
  more_header =
      elim (header_cases (header_of bytes)) [
        | inl none ↦ rw none refl
        | inr there ↦
            elim then.header [
              | inl none ↦ rw none refl
              | inr kept ↦ rw (kept ∙ there.1, there.1) refl
            ]
      ]

-- ---- a drawer

-- the places of the records that come are counted
has_room : (at : Option Order) (wave : Drawn) (records more : List Record) → HasComeTo at records →
    wave.place ≡ length (drawn_of (order_of at) records) → length records + length more < 2 ^ 63 →
    HasRoom at wave (length more)
has_room None wave records more come place few = omega (arith, place, few)
has_room (Some order) wave records more come place few = place ∙ sym come.next

module _ (drawing : Drawing) (bytes piece : List ℕ) (old mid : Drawer) (was : IsDrawn drawing bytes old)
    (has : HasRead mid.reader (bytes ++ piece) (reading_of bytes).memory (reading_of bytes).records)
    (begun : mid.begun ≡ old.begun) (wave : mid.wave ≡ old.wave) (times : mid.times ≡ old.times)
    (order : mid.order ≡ old.order) where
  abbrev before : List Record
  before = (reading_of bytes).records

  records_now : (reading_of (bytes ++ piece)).records ≡ before ++ mid.reader.records
  records_now = ap (λ (q : Reading). q.records) has.same

  header_same : header_of (bytes ++ piece) ≡ header_now mid.reader
  header_same = ap header_now has.same

  wave_so_far : mid.wave ≡ drawn_after (undrawn drawing.view) (drawn_of drawing.order before)
  wave_so_far = wave ∙ was.wave

  order_same : order_of mid.order ≡ drawing.order
  order_same = ap order_of order ∙ was.order

  pub come_so_far : HasComeTo mid.order before
  come_so_far = subst (λ (at : Option Order). HasComeTo at before) (sym order) was.come

  -- there are fewer records than bytes
  pub room_now : length bytes + length piece < 2 ^ 63 → HasRoom mid.order mid.wave (length mid.reader.records)
  room_now few =
      has_room mid.order mid.wave before mid.reader.records come_so_far
      (omega (
        arith,
        ap (λ (w : Drawn). w.place) wave_so_far,
        place_after (undrawn drawing.view) (drawn_of drawing.order before),
        ap (λ (o : Option (Vec ℕ)). length (drawn_of o before)) order_same,
      ))
      (omega (
        arith,
        few,
        ap (λ (rs : List Record). length rs) records_now,
        length-append before mid.reader.records,
        count_within (bytes ++ piece) has.are_bytes,
        length-append bytes piece,
      ))

  module _ (new : Drawer) (draws : DrawsAll mid new before) where
    more_drawn : drawn_of drawing.order (reading_of (bytes ++ piece)).records
        ≡ drawn_of drawing.order before ++ draws.due
    more_drawn = ap (drawn_of drawing.order) records_now
        ∙ subst (λ (o : Option (Vec ℕ)). drawn_of o (before ++ mid.reader.records) ≡ drawn_of o before ++ draws.due)
        order_same draws.drawn

    pub drawn_now : IsDrawn drawing (bytes ++ piece) new
    drawn_now = record {
      read = subst (λ (r : Reading). HasRead r (bytes ++ piece) (reading_of (bytes ++ piece)).memory
          (reading_of (bytes ++ piece)).records) (sym draws.reader)
          (all_taken (bytes ++ piece) (reading_of bytes).memory before mid.reader has);
      no_memory = ap (λ (r : Reading). r.memory) draws.reader;
      no_records = ap (λ (r : Reading). r.records) draws.reader;
      begun = draws.begun ∙ ap (λ (b : Bool). or_header b (header_now mid.reader)) (begun ∙ was.begun)
          ∙ ap (or_header (is_some (header_of bytes))) (sym header_same)
          ∙ sym (more_header drawing bytes piece draws.due more_drawn);
      times = draws.times ∙ times ∙ was.times;
      order = draws.order ∙ order_same;
      come = subst (HasComeTo new.order) (sym records_now) draws.come;
      wave = draws.wave ∙ ap (λ (w : Drawn). drawn_after w draws.due) wave_so_far
          ∙ sym (drawn_after-append (undrawn drawing.view) (drawn_of drawing.order before) draws.due)
          ∙ ap (drawn_after (undrawn drawing.view)) (sym more_drawn);
    }

    pub wave_now : string_bytes mid.text ≡ [] →
        wave_of drawing (bytes ++ piece) ≡ wave_of drawing bytes ++ string_bytes new.text
    wave_now empty =
        let due = draws.due in
        let shows : mid.wave.view ≡ drawing.view = ap (λ (w : Drawn). w.view) wave_so_far
        ∙ view_after (undrawn drawing.view) (drawn_of drawing.order before) in
        let same : drawing_of mid ≡ drawing = drawing_same mid drawing shows (times ∙ was.times) order_same in
        let header = header_now mid.reader in
        let text : string_bytes new.text ≡ head_due mid.begun (drawing_of mid) header
        ++ wave_from mid.times mid.wave due =
        draws.text ∙ ap (λ (l : List ℕ). l ++ (head_due mid.begun (drawing_of mid) header
        ++ wave_from mid.times mid.wave due)) empty in
        let all : head_due mid.begun (drawing_of mid) header ++ wave_from mid.times mid.wave due
        ≡ head_due (is_some (header_of bytes)) drawing (header_of (bytes ++ piece))
        ++ wave_from drawing.times (drawn_after (undrawn drawing.view) (drawn_of drawing.order before)) due =
        ap (λ (b : Bool). head_due b (drawing_of mid) header ++ wave_from mid.times mid.wave due)
        (begun ∙ was.begun)
        ∙ ap (λ (d : Drawing). head_due (is_some (header_of bytes)) d header ++ wave_from d.times mid.wave due) same
        ∙ ap (λ (h : Option Header). head_due (is_some (header_of bytes)) drawing h
        ++ wave_from drawing.times mid.wave due) (sym header_same)
        ∙ ap (λ (w : Drawn). head_due (is_some (header_of bytes)) drawing (header_of (bytes ++ piece))
        ++ wave_from drawing.times w due) wave_so_far in
        more_wave drawing bytes piece due more_drawn
        ∙ ap (λ (l : List ℕ). wave_of drawing bytes ++ l) (sym (text ∙ all))

-- a drawer that was shown nothing
pub draws_itself : (drawing : Drawing) (drawer : Drawer) → IsDrawn drawing [] drawer → drawing_of drawer ≡ drawing
draws_itself drawing drawer drawn =
    drawing_same drawer drawing (ap (λ (w : Drawn). w.view) drawn.wave
    ∙ view_after (undrawn drawing.view) (drawn_of drawing.order [])) drawn.times drawn.order
