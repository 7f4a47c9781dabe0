-- What a dump read and wrote so far.
use Rattle.std.proofs.Common.{◌≡◌, ℕ, zero, suc, ◌+◌, ◌*◌, ◌≤◌, List, [], ◌∷◌, ◌++◌, length, take, Bool, Ok, Err}
use Rattle.std.proofs.Common.{refl, sym, ap, subst, ◌∙◌, append_assoc, append-nil, arith, inl, ◌≢◌}
use Rattle.std.specs.List.{concat}
use Rattle.std.specs.Prelude.{IsTrue}
use Rattle.std.proofs.lemmas.List.{length-append}
use Rattle.std.proofs.lemmas.List.Folds.{concat-append}
use Rattle.std.specs.Io.KnownBytes.{Consumes, Keeps, IsAtEnd}
use Rattle.std.proofs.KnownBytes.{Appends-trans}
use Rattle.run_stream.specs.Account.{Account, WentOut}
use Rattle.run_stream.specs.Gathered.{IsPartRead, IsAllRead, GoesOn}
use Rattle.run_stream.proofs.GatheringLemmas.{begun, same_part, more_part, last_part}
use Rattle.run_stream.proofs.GatheringLemmas.{goes_from, goes_same, goes_more}
use Rattle.run_stream.proofs.OutputLemmas.{nothing_out}
use Rattle.lf_codec.specs.Laws.{FaultsSoFarAreNotTruncated}
use Rattle.text_dump.proofs.Faults.{none_stands}
use Rattle.text_dump.specs.declared.fault.DumpFault.{DumpFault}
use Rattle.text_dump.specs.declared.fault.DumpFault.TheVariants.{Read, Turns, Memory, Write}
use Rattle.text_dump.specs.declared.printer.Printer.{Printer}
use Rattle.text_dump.specs.Lines.{lines_of, closing_of}
use Rattle.text_dump.specs.Dump.{HasFault, IsNone, IsShown, Closes, IsToldSoFar, IsToldInPart, IsCutOff, IsStopped}
use Rattle.text_dump.specs.Dump.{IsToldBut, IsToldButForOne, Shows, piece_len}

-- ---- bytes that went out

pub out_on : (a b c : Account) (xs ys : List ℕ) → WentOut a b xs → WentOut b c ys → WentOut a c (xs ++ ys)
out_on a b c xs ys first later = record {
  taken = later.taken ∙ ap (λ (l : List ℕ). l ++ ys) first.taken ∙ append_assoc (concat a.pieces) xs ys;
  known = Appends-trans _ _ _ xs ys first.known later.known;
}

pub cut : (n : ℕ) (xs ys : List ℕ) → (k : ℕ) × (take n xs ≡ take k (xs ++ ys))
cut zero xs ys = (0, refl)
cut (suc n) [] ys = (0, refl)
cut (suc n) (x ∷ xs) ys = let rest = cut n xs ys in (suc rest.0, ap (λ (l : List ℕ). x ∷ l) rest.1)

pub front : (xs ys : List ℕ) (n : ℕ) → take (length xs + n) (xs ++ ys) ≡ xs ++ take n ys
front [] ys n = let same : length {A = ℕ} [] + n ≡ n = omega arith in ap (λ (k : ℕ). take k ys) same
front (x ∷ xs) ys n =
    let more : length (x ∷ xs) + n ≡ suc (length xs + n) = omega arith in
    ap (λ (k : ℕ). take k (x ∷ (xs ++ ys))) more ∙ ap (λ (l : List ℕ). x ∷ l) (front xs ys n)

-- ---- bytes that were read

pub any_part : (a b : Account) (bytes : List ℕ) → IsPartRead HasFault a b bytes → IsPartRead IsNone a b bytes
any_part a b bytes part =
    record {
      pieces = part.pieces;
      answered = part.answered;
      joined = part.joined;
      given = part.given;
      wanted =
          λ bad. bad;
    }

pub all_part : (a b : Account) (bytes : List ℕ) → IsAllRead HasFault piece_len a b bytes → IsPartRead IsNone a b bytes
all_part a b bytes all = record {
  pieces = all.before ++ all.last ∷ [];
  answered = all.answered;
  joined = all.joined ∙ ap (λ (l : List ℕ). concat all.before ++ l) (sym (append-nil all.last))
      ∙ sym (concat-append all.before (all.last ∷ []));
  given = all.given;
  wanted = λ bad. bad;
}

none_more : (a b : Account) (bytes : List ℕ) → IsPartRead IsNone a b bytes → IsPartRead IsNone a b (bytes ++ [])
none_more a b bytes part = subst (IsPartRead IsNone a b) (sym (append-nil bytes)) part

-- ---- where a dump stops

-- The lines of the bytes went out that the reads answered, so many reads of a piece each.
pub record IsTelling (old new writer writer' : Account) (turn : ℕ) (printer : Printer) : Type 0 where
  pub bytes : List ℕ
  pub shown : IsShown bytes printer
  pub part : IsPartRead HasFault old new bytes
  pub goes_on : GoesOn old.pieces new.pieces
  pub out : WentOut writer writer' (lines_of bytes)
  pub size : length bytes ≤ turn * piece_len

pub stops_here : (a b w x : Account) (turn : ℕ) (printer : Printer) → IsTelling a b w x turn printer →
    IsToldSoFar lines_of a b w x []
stops_here a b w x turn printer t = record {
  bytes = t.bytes;
  part = t.part;
  unended = t.goes_on;
  out =
      subst (WentOut w x) (sym (append-nil (lines_of t.bytes))) t.out;
}

pub stops_in_part : (lines : List ℕ → List ℕ) (a b w x : Account) (bytes more : List ℕ) →
    IsPartRead IsNone a b (bytes ++ more) → WentOut w x (lines bytes)
    → IsToldInPart lines a b w x []
stops_in_part lines a b w x bytes more part out =
    record { bytes = bytes; more = more; part = part; out = subst (WentOut w x) (sym (append-nil (lines bytes))) out }

pub stops_at_end : (lines : List ℕ → List ℕ) (a b w x : Account) (bytes : List ℕ) →
    IsAllRead HasFault piece_len a b bytes → WentOut w x (lines bytes)
    → IsToldInPart lines a b w x []
stops_at_end lines a b w x bytes all out = stops_in_part lines a b w x bytes []
    (none_more a b bytes (all_part a b bytes all)) out

-- Nothing was read, and nothing went out.
pub none_told : (a w : Account) → IsToldButForOne a a w w []
none_told a w = record {
  bytes = [];
  more = [];
  part = begun IsNone a (λ bad. bad);
  few = omega arith;
  out = nothing_out w;
}

-- No line is missing.
pub none_missing : (missing : ℕ) (lines : List ℕ → List ℕ) (a b w x : Account) (bytes : List ℕ) →
    IsAllRead HasFault piece_len a b bytes → WentOut w x (lines bytes) → IsToldBut missing lines a b w x []
none_missing missing lines a b w x bytes all out = record {
  bytes = bytes;
  more = [];
  part = none_more a b bytes (all_part a b bytes all);
  few = omega arith;
  out = subst (WentOut w x) (sym (append-nil (lines bytes))) out;
}

pub all_told : (a b w x : Account) (bytes : List ℕ) → IsAllRead HasFault piece_len a b bytes →
    WentOut w x (lines_of bytes) → IsToldButForOne a b w x []
all_told = none_missing piece_len lines_of

-- The last of the lines went out as far as the writer took them.
pub cut_in_lines : (lines : List ℕ → List ℕ) (a b w x y : Account) (bytes early late : List ℕ) (n : ℕ) →
    IsPartRead IsNone a b bytes → lines bytes ≡ early ++ late
    → WentOut w x early → WentOut x y (take n late) → IsCutOff lines a b w y
cut_in_lines lines a b w x y bytes early late n part same before out =
    let line = closing_of bytes in
    let short = cut n late line in
    let count : ℕ = length early + short.0 in
    let whole : take count (lines bytes ++ line) ≡ early ++ take n late =
    ap (λ (l : List ℕ). take count (l ++ line)) same
    ∙ ap (take count) (append_assoc early late line)
    ∙ front early (late ++ line) short.0
    ∙ ap (λ (l : List ℕ). early ++ l) (sym short.1) in
    record {
      bytes = bytes;
      more = [];
      part = none_more a b bytes part;
      line = line;
      closes = inl refl;
      count = count;
      out = subst (WentOut w y) (sym whole) (out_on w x y early (take n late) before out);
    }

-- The line behind the lines went out as far as the writer took it.
pub cut_in_closing : (lines : List ℕ → List ℕ) (a b w x y : Account) (bytes more line : List ℕ) (n : ℕ) →
    IsPartRead IsNone a b (bytes ++ more) → Closes line bytes
    → WentOut w x (lines bytes) → WentOut x y (take n line) → IsCutOff lines a b w y
cut_in_closing lines a b w x y bytes more line n part closes before out = record {
  bytes = bytes;
  more = more;
  part = part;
  line = line;
  closes = closes;
  count = length (lines bytes) + n;
  out = subst (WentOut w y) (sym (front (lines bytes) line n)) (out_on w x y (lines bytes) (take n line) before out);
}

pub cut_at_end : (lines : List ℕ → List ℕ) (a b w x y : Account) (bytes : List ℕ) (n : ℕ) →
    IsAllRead HasFault piece_len a b bytes
    → WentOut w x (lines bytes) → WentOut x y (take n (closing_of bytes)) → IsCutOff lines a b w y
cut_at_end lines a b w x y bytes n all before out =
    cut_in_closing lines a b w x y bytes [] (closing_of bytes) n (none_more a b bytes (all_part a b bytes all))
    (inl refl) before out

-- ---- the line of a refusal

module _ (w x y : Account) (line : List ℕ) (out : WentOut x y line) where
  pub then_line : (lines : List ℕ) → WentOut w x (lines ++ []) → WentOut w y (lines ++ line)
  then_line lines before = subst (λ (l : List ℕ). WentOut w y (l ++ line)) (append-nil lines)
      (out_on w x y (lines ++ []) line before out)

  pub line_so_far : (lines : List ℕ → List ℕ) (a b : Account) → IsToldSoFar lines a b w x [] →
      IsToldSoFar lines a b w y line
  line_so_far lines a b t = record {
    bytes = t.bytes;
    part = t.part;
    unended = t.unended;
    out =
        then_line (lines t.bytes) t.out;
  }

  pub line_in_part : (lines : List ℕ → List ℕ) (a b : Account) → IsToldInPart lines a b w x [] →
      IsToldInPart lines a b w y line
  line_in_part lines a b t = record {
    bytes = t.bytes;
    more = t.more;
    part = t.part;
    out =
        then_line (lines t.bytes) t.out;
  }

  pub line_but : (missing : ℕ) (lines : List ℕ → List ℕ) (a b : Account) → IsToldBut missing lines a b w x [] →
      IsToldBut missing lines a b w y line
  line_but missing lines a b t = record {
    bytes = t.bytes;
    more = t.more;
    part = t.part;
    few = t.few;
    out =
        then_line (lines t.bytes) t.out;
  }

module _ (lines : List ℕ → List ℕ) (a b w x y : Account) (line : List ℕ) (n : ℕ) (out : WentOut x y (take n line)) where
  pub cut_so_far : IsToldSoFar lines a b w x [] → ((bytes : List ℕ) → Closes line bytes) → IsCutOff lines a b w y
  cut_so_far t closes =
      cut_in_closing lines a b w x y t.bytes [] line n (none_more a b t.bytes (any_part a b t.bytes t.part))
      (closes t.bytes)
      (subst (WentOut w x) (append-nil (lines t.bytes)) t.out) out

  pub cut_in_part : IsToldInPart lines a b w x [] → ((bytes : List ℕ) → Closes line bytes) → IsCutOff lines a b w y
  cut_in_part t closes =
      cut_in_closing lines a b w x y t.bytes t.more line n t.part (closes t.bytes)
      (subst (WentOut w x) (append-nil (lines t.bytes)) t.out) out

-- ---- one more read

pub telling_start : FaultsSoFarAreNotTruncated → (a w : Account) (printer : Printer) → IsShown [] printer →
    IsTelling a a w w 0 printer
telling_start so_far a w printer shown =
    record {
      bytes = [];
      shown = shown;
      part = begun HasFault a (none_stands so_far [] refl);
      goes_on = goes_from a.pieces;
      out =
          nothing_out w;
      size = omega arith;
    }

-- A read that failed answered nothing.
pub telling_same : (a b c w x : Account) (turn : ℕ) (printer : Printer) → IsTelling a b w x turn printer →
    c.pieces ≡ b.pieces → Keeps b.known c.known
    → IsTelling a c w x (turn + 1) printer
telling_same a b c w x turn printer t pieces known = record {
  bytes = t.bytes;
  shown = t.shown;
  part = same_part HasFault a b c t.bytes t.part pieces known;
  goes_on = goes_same a.pieces b.pieces c.pieces t.goes_on pieces;
  out = t.out;
  size = omega (arith, t.size);
}

-- All bytes that were to be read were, and their lines went out.
abbrev pub IsWhollyTold : Account → Account → Account → Account → Printer → Type 0
IsWhollyTold old new writer writer' printer =
    (bytes : List ℕ) × IsShown bytes printer × IsAllRead HasFault piece_len old new bytes ×
    WentOut writer writer' (lines_of bytes)

module _ (a b c w x : Account) (turn : ℕ) (old : Printer) (t : IsTelling a b w x turn old) (piece : List ℕ)
    (pieces : c.pieces ≡ b.pieces ++ piece ∷ []) (known : Consumes b.known c.known piece)
    (one_read : length piece ≤ piece_len) where
  -- A read answered no bytes.
  pub told_at_end : piece ≡ [] → IsAtEnd c.known → IsWhollyTold a c w x old
  told_at_end none at_end =
      let same : t.bytes ≡ t.bytes ++ piece = sym (ap (λ (p : List ℕ). t.bytes ++ p) none ∙ append-nil t.bytes) in (
        t.bytes ++ piece,
        subst (λ (bs : List ℕ). IsShown bs old) same t.shown,
        last_part HasFault a b c t.bytes t.part piece pieces known piece_len one_read (λ _. none) (λ _. at_end),
        subst (λ (bs : List ℕ). WentOut w x (lines_of bs)) same t.out,
      )

  module _ (y : Account) (new : Printer) where
    lines_out : (lines : List ℕ) → lines_of (t.bytes ++ piece) ≡ lines_of t.bytes ++ lines → WentOut x y lines →
        WentOut w y (lines_of (t.bytes ++ piece))
    lines_out lines same out = subst (WentOut w y) (sym same) (out_on w x y (lines_of t.bytes) lines t.out out)

    pub told_last : (enough : Bool) → IsTrue enough → Shows x y new t.bytes piece (Ok enough) → IsWhollyTold a c w y new
    told_last enough is h =
        let fault = h.1.0 is in (
          t.bytes ++ piece,
          h.0,
          last_part HasFault a b c t.bytes t.part piece pieces known piece_len one_read
              (λ sound. absurd (sound fault)) (λ sound. absurd (sound fault)),
          lines_out h.2.0 h.2.1 h.2.2,
        )

    pub telling_more : piece ≢ [] → (enough : Bool) → ¬ IsTrue enough → Shows x y new t.bytes piece (Ok enough) →
        IsTelling a c w y (turn + 1) new
    telling_more some enough not h = record {
      bytes = t.bytes ++ piece;
      shown = h.0;
      part = more_part HasFault a b c t.bytes t.part piece pieces known (λ fault. not (h.1.1 fault));
      goes_on = goes_more a.pieces b.pieces c.pieces t.goes_on piece pieces some;
      out = lines_out h.2.0 h.2.1 h.2.2;
      size = omega (arith, t.size, one_read, length-append t.bytes piece);
    }

    pub stopped_by : (fault : DumpFault) → Shows x y new t.bytes piece (Err fault) → IsStopped lines_of a c w y [] fault
    stopped_by Read h = absurd h
    stopped_by Turns h = absurd h
    stopped_by Memory same =
        stops_in_part lines_of a c w y t.bytes piece (more_part IsNone a b c t.bytes (any_part a b t.bytes t.part)
        piece pieces known (λ bad. bad))
        (subst (λ (z : Account). WentOut w z (lines_of t.bytes)) (sym same) t.out)
    stopped_by Write h =
        cut_in_lines lines_of a c w x y (t.bytes ++ piece) (lines_of t.bytes) h.0 h.2.0
        (more_part IsNone a b c t.bytes (any_part a b t.bytes t.part) piece pieces known (λ bad. bad)) h.1 t.out h.2.1

    -- Memory ran out: the lines of the piece are missing.
    pub told_but_for_piece : (fault : DumpFault) → fault ≡ Memory → Shows x y new t.bytes piece (Err fault) →
        IsToldButForOne a c w y []
    told_but_for_piece Read is h = absurd h
    told_but_for_piece Turns is h = absurd h
    told_but_for_piece Memory is same = record {
      bytes = t.bytes;
      more = piece;
      part = more_part IsNone a b c t.bytes (any_part a b t.bytes t.part) piece pieces known (λ bad. bad);
      few = one_read;
      out = subst (λ (z : Account). WentOut w z (lines_of t.bytes ++ [])) (sym same)
          (subst (WentOut w x) (sym (append-nil (lines_of t.bytes))) t.out);
    }
    told_but_for_piece Write is h = absurd cc
