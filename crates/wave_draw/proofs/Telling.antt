-- What a view read and wrote so far.
use Rattle.std.proofs.Common.{◌≡◌, ℕ, suc, ◌+◌, ◌*◌, ◌≤◌, List, [], ◌∷◌, ◌++◌, length, take, Bool, Ok, Err}
use Rattle.std.proofs.Common.{refl, sym, ap, subst, ◌∙◌, append-nil, arith}
use Rattle.std.specs.Prelude.{IsTrue}
use Rattle.std.proofs.lemmas.List.{length-append}
use Rattle.std.specs.Io.KnownBytes.{Consumes, Keeps, IsAtEnd}
use Rattle.run_stream.specs.Account.{Account, WentOut}
use Rattle.run_stream.specs.Gathered.{IsPartRead, IsAllRead}
use Rattle.run_stream.proofs.GatheringLemmas.{begun, same_part, more_part, last_part}
use Rattle.run_stream.proofs.OutputLemmas.{nothing_out}
use Rattle.lf_codec.specs.Laws.{FaultsSoFarAreNotTruncated}
use Rattle.text_dump.specs.Dump.{HasFault, IsNone, piece_len}
use Rattle.text_dump.proofs.Faults.{none_stands}
use Rattle.text_dump.proofs.Telling.{out_on, any_part}
use Rattle.wave_signals.specs.Wave.{undrawn, wave_from}
use Rattle.wave_draw.specs.declared.drawing.Drawing.{Drawing}
use Rattle.wave_draw.specs.declared.fault.ViewFault.{ViewFault}
use Rattle.wave_draw.specs.declared.fault.ViewFault.TheVariants.{Read, Turns, Memory, Write, Order}
use Rattle.wave_draw.specs.declared.drawer.Drawer.{Drawer}
use Rattle.wave_draw.specs.Viewing.{wave_of, IsDrawn, IsViewedSoFar, IsViewedInPart, IsCutOff, IsStopped, Shows}
use Rattle.wave_order.proofs.Ordered.{none_drawn}

-- a front of the bytes behind others
front : (xs ys : List ℕ) (n : ℕ) → take (length xs + n) (xs ++ ys) ≡ xs ++ take n ys
front [] ys n = let same : length {A = ℕ} [] + n ≡ n = omega arith in ap (λ (k : ℕ). take k ys) same
front (x ∷ xs) ys n =
    let more : length (x ∷ xs) + n ≡ suc (length xs + n) = omega arith in
    ap (λ (k : ℕ). take k (x ∷ (xs ++ ys))) more ∙ ap (λ (l : List ℕ). x ∷ l) (front xs ys n)

none_more : (a b : Account) (bytes : List ℕ) → IsPartRead IsNone a b bytes → IsPartRead IsNone a b (bytes ++ [])
none_more a b bytes part = subst (IsPartRead IsNone a b) (sym (append-nil bytes)) part

-- The wave of the bytes went out that the reads answered, so many reads of a piece each.
pub record IsTelling (drawing : Drawing) (old new writer writer' : Account) (turn : ℕ) (drawer : Drawer) : Type 0 where
  pub bytes : List ℕ
  pub drawn : IsDrawn drawing bytes drawer
  pub part : IsPartRead HasFault old new bytes
  pub out : WentOut writer writer' (wave_of drawing bytes)
  pub size : length bytes ≤ turn * piece_len

pub stops_here : (drawing : Drawing) (a b w x : Account) (turn : ℕ) (drawer : Drawer) →
    IsTelling drawing a b w x turn drawer → IsViewedSoFar drawing a b w x
stops_here drawing a b w x turn drawer t = record { bytes = t.bytes; part = t.part; out = t.out }

-- no byte has a wave
no_wave : (drawing : Drawing) → wave_of drawing [] ≡ []
no_wave drawing = ap (wave_from drawing.times (undrawn drawing.view)) (none_drawn drawing.order [] refl)

no_wave_out : (drawing : Drawing) (w : Account) → WentOut w w (wave_of drawing [])
no_wave_out drawing w = subst (WentOut w w) (sym (no_wave drawing)) (nothing_out w)

-- no byte was read, and nothing went out
pub nothing_viewed : (drawing : Drawing) (a w : Account) → IsViewedInPart drawing a a w w
nothing_viewed drawing a w =
    record {
      bytes = [];
      more = [];
      part = begun IsNone a (λ bad. bad);
      few = omega arith;
      out = no_wave_out drawing w;
    }

-- ---- one more read

pub telling_start : FaultsSoFarAreNotTruncated → (drawing : Drawing) (a w : Account) (drawer : Drawer) →
    IsDrawn drawing [] drawer → IsTelling drawing a a w w 0 drawer
telling_start so_far drawing a w drawer drawn =
    record {
      bytes = [];
      drawn = drawn;
      part = begun HasFault a (none_stands so_far [] refl);
      out = no_wave_out drawing w;
      size = omega arith;
    }

-- A read that failed answered nothing.
pub telling_same : (drawing : Drawing) (a b c w x : Account) (turn : ℕ) (drawer : Drawer) →
    IsTelling drawing a b w x turn drawer → c.pieces ≡ b.pieces → Keeps b.known c.known
    → IsTelling drawing a c w x (turn + 1) drawer
telling_same drawing a b c w x turn drawer t pieces known = record {
  bytes = t.bytes;
  drawn = t.drawn;
  part = same_part HasFault a b c t.bytes t.part pieces known;
  out = t.out;
  size = omega (arith, t.size);
}

-- All bytes that were to be read were, and their wave went out.
abbrev pub IsWhollyTold : Drawing → Account → Account → Account → Account → Drawer → Type 0
IsWhollyTold drawing old new writer writer' drawer =
    (bytes : List ℕ) × IsDrawn drawing bytes drawer × IsAllRead HasFault piece_len old new bytes ×
    WentOut writer writer' (wave_of drawing bytes)

module _ (drawing : Drawing) (a b c w x : Account) (turn : ℕ) (old : Drawer) (t : IsTelling drawing a b w x turn old)
    (piece : List ℕ)
    (pieces : c.pieces ≡ b.pieces ++ piece ∷ []) (known : Consumes b.known c.known piece)
    (one_read : length piece ≤ piece_len) where
  -- A read answered no bytes.
  pub told_at_end : piece ≡ [] → IsAtEnd c.known → IsWhollyTold drawing a c w x old
  told_at_end none at_end =
      let same : t.bytes ≡ t.bytes ++ piece = sym (ap (λ (p : List ℕ). t.bytes ++ p) none ∙ append-nil t.bytes) in (
        t.bytes ++ piece,
        subst (λ (bs : List ℕ). IsDrawn drawing bs old) same t.drawn,
        last_part HasFault a b c t.bytes t.part piece pieces known piece_len one_read (λ _. none) (λ _. at_end),
        subst (λ (bs : List ℕ). WentOut w x (wave_of drawing bs)) same t.out,
      )

  part_read : IsPartRead IsNone a c (t.bytes ++ piece)
  part_read = more_part IsNone a b c t.bytes (any_part a b t.bytes t.part) piece pieces known (λ bad. bad)

  module _ (y : Account) (new : Drawer) where
    wave_out : (wave : List ℕ) → wave_of drawing (t.bytes ++ piece) ≡ wave_of drawing t.bytes ++ wave →
        WentOut x y wave → WentOut w y (wave_of drawing (t.bytes ++ piece))
    wave_out wave same out = subst (WentOut w y) (sym same) (out_on w x y (wave_of drawing t.bytes) wave t.out out)

    pub told_last : (enough : Bool) → IsTrue enough → Shows drawing x y new t.bytes piece (Ok enough) →
        IsWhollyTold drawing a c w y new
    told_last enough is h =
        let fault = h.1.0 is in (
          t.bytes ++ piece,
          h.0,
          last_part HasFault a b c t.bytes t.part piece pieces known piece_len one_read
              (λ sound. absurd (sound fault)) (λ sound. absurd (sound fault)),
          wave_out h.2.0 h.2.1 h.2.2,
        )

    pub telling_more : (enough : Bool) → ¬ IsTrue enough → Shows drawing x y new t.bytes piece (Ok enough) →
        IsTelling drawing a c w y (turn + 1) new
    telling_more enough not h = record {
      bytes = t.bytes ++ piece;
      drawn = h.0;
      part = more_part HasFault a b c t.bytes t.part piece pieces known (λ fault. not (h.1.1 fault));
      out = wave_out h.2.0 h.2.1 h.2.2;
      size = omega (arith, t.size, one_read, length-append t.bytes piece);
    }

    -- The wave of the piece went out as far as the writer took it.
    cut_in_wave : (wave : List ℕ) (n : ℕ) → wave_of drawing (t.bytes ++ piece) ≡ wave_of drawing t.bytes ++ wave →
        WentOut x y (take n wave) → IsCutOff drawing a c w y
    cut_in_wave wave n same out =
        let count : ℕ = length (wave_of drawing t.bytes) + n in
        let whole : take count (wave_of drawing (t.bytes ++ piece)) ≡ wave_of drawing t.bytes ++ take n wave =
        ap (take count) same ∙ front (wave_of drawing t.bytes) wave n in
        record {
          bytes = t.bytes ++ piece;
          part = part_read;
          count = count;
          out = subst (WentOut w y) (sym whole) (out_on w x y (wave_of drawing t.bytes) (take n wave) t.out out);
        }

    pub stopped_by : (fault : ViewFault) → Shows drawing x y new t.bytes piece (Err fault) →
        IsStopped drawing a c w y fault
    stopped_by Read h = absurd h
    stopped_by Turns h = absurd h
    stopped_by Memory same =
        record {
          bytes = t.bytes;
          more = piece;
          part = part_read;
          few = one_read;
          out =
              subst (λ (z : Account). WentOut w z (wave_of drawing t.bytes)) (sym same) t.out;
        }
    stopped_by Write h = cut_in_wave h.0 h.2.0 h.1 h.2.1
    stopped_by Order h = absurd h
