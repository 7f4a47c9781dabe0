-- What is held of the chosen lines.
use Rattle.std.proofs.Common.{◌≡◌, ℕ, ◌+◌, ◌-◌, ◌<◌, ◌≤◌, List, [], ◌∷◌, ◌++◌, length, map, take, drop, Option, Some}
use Rattle.std.proofs.Common.{None, Global, Result, Ok, Err, refl, sym, ap, subst, ◌∙◌, append_assoc, append-nil}
use Rattle.std.proofs.Common.{arith, string_bytes}
use Rattle.std.specs.List.{concat}
use Rattle.std.proofs.lemmas.List.{length-append, length-drop, length-map, map-append, drop-append-le, drop-drop}
use Rattle.std.proofs.lemmas.List.Folds.{concat-append}
use Rattle.std.specs.Prelude.{String, OnErr, codes}
use Rattle.std.specs.Fmt.{decimal}
use Rattle.lf_codec.specs.Reading.{header_of}
use Rattle.run_stream.specs.Account.{Account, WentOut}
use Rattle.run_stream.proofs.OutputLemmas.{nothing_out}
use Rattle.text_dump.specs.declared.choice.Choice.{Choice}
use Rattle.text_dump.specs.declared.chosen.Chosen.{Chosen}
use Rattle.text_dump.specs.Lines.{placed_line}
use Rattle.text_dump.specs.Chosen.{last_of, header_lines, chosen_lines, taken_of}
use Rattle.text_dump.proofs.Telling.{out_on, cut, front}
use Rattle.text_dump.specs.Choosing.{at_once, at_end, Holds, HasChosen, rest_of, IsToldOf, IsChosen, TellsAtOnce}
use Rattle.text_dump.specs.Dump.{IsShown}
use Rattle.text_dump.specs.declared.printer.Printer.{Printer}

concat_one : (lines : List (List ℕ)) (l : List ℕ) → concat (lines ++ l ∷ []) ≡ concat lines ++ l
concat_one lines l = concat-append lines (l ∷ []) ∙ ap (λ (x : List ℕ). concat lines ++ x) (append-nil l)

-- ---- the last lines

pub last_of_none : (last : Option ℕ) → last_of last [] ≡ []
last_of_none None = refl
last_of_none (Some most) = let none : length {A = List ℕ} [] - most ≡ 0 = omega arith in ap (λ (n : ℕ). drop n []) none

module _ (most : ℕ) (kept lines : List (List ℕ)) (line : List ℕ)
    (so_far : kept ≡ drop (length lines - most) lines) where
  kept_len : length kept ≡ length lines - (length lines - most)
  kept_len = ap length so_far ∙ length-drop (length lines - most) lines

  pub keeps_all : length (kept ++ line ∷ []) ≤ most → kept ++ line ∷ [] ≡ last_of (Some most) (lines ++ line ∷ [])
  keeps_all few =
      let before : length lines - most ≡ 0 = omega (arith, few, kept_len, length-append kept (line ∷ [])) in
      let after : length (lines ++ line ∷ []) - most ≡ 0 = omega
      (arith, few, kept_len, length-append kept (line ∷ []), length-append lines (line ∷ [])) in
      ap (λ (k : List (List ℕ)). k ++ line ∷ []) (so_far ∙ ap (λ (n : ℕ). drop n lines) before)
      ∙ sym (ap (λ (n : ℕ). drop n (lines ++ line ∷ [])) after)

  pub keeps_last : most < length (kept ++ line ∷ []) → drop 1 (kept ++ line ∷ [])
      ≡ last_of (Some most) (lines ++ line ∷ [])
  keeps_last many =
      let n = length lines - most in
      let within : n ≤ length lines = omega arith in
      let after : n + 1 ≡ length (lines ++ line ∷ []) - most =
      omega (arith, many, kept_len, length-append kept (line ∷ []), length-append lines (line ∷ [])) in
      ap (λ (k : List (List ℕ)). drop 1 (k ++ line ∷ [])) so_far
      ∙ ap (drop 1) (sym (drop-append-le n lines (line ∷ []) within))
      ∙ drop-drop 1 n (lines ++ line ∷ [])
      ∙ ap (λ (k : ℕ). drop k (lines ++ line ∷ [])) after

first_dropped : (items : List (String Global)) → map string_bytes (drop 1 items) ≡ drop 1 (map string_bytes items)
first_dropped [] = refl
first_dropped (x ∷ items) = refl

pub keeps_newest : (most : ℕ) (items pushed popped : List (String Global)) (text : String Global)
    (lines : List (List ℕ)) (line : List ℕ) → string_bytes text ≡ line → pushed ≡ items ++ text ∷ []
    → popped ≡ drop 1 pushed → most < length pushed → map string_bytes items ≡ last_of (Some most) lines →
    map string_bytes popped ≡ last_of (Some most) (lines ++ line ∷ [])
keeps_newest most items pushed popped text lines line is push pop many so_far =
    let all : map string_bytes pushed ≡ map string_bytes items ++ line ∷ [] =
    ap (λ (ls : List (String Global)). map string_bytes ls) push ∙ map-append string_bytes items (text ∷ [])
    ∙ ap (λ (l : List ℕ). map string_bytes items ++ l ∷ []) is in
    let more : most < length (map string_bytes items ++ line ∷ []) =
    omega (arith, many, ap length all, length-map pushed string_bytes) in
    ap (λ (ls : List (String Global)). map string_bytes ls) pop ∙ first_dropped pushed ∙ ap (drop 1) all
    ∙ keeps_last most (map string_bytes items) lines line so_far more

-- ---- one line more

pub pushed_at_once : (old new : Chosen) (out head : List ℕ) (lines : List (List ℕ)) (line : List ℕ) →
    Holds old out head lines → old.choice.last ≡ None
    → new.choice ≡ old.choice → new.lines.items ≡ old.lines.items →
    string_bytes new.text ≡ string_bytes old.text ++ line → Holds new out head (lines ++ line ∷ [])
pushed_at_once old new out head lines line h none choice same text =
    let last : new.choice.last ≡ None = ap (λ (c : Choice). c.last) choice ∙ none in
    record {
      text = ap (λ (t : List ℕ). out ++ t) text
          ∙ sym (append_assoc out (string_bytes old.text) line)
          ∙ ap (λ (t : List ℕ). t ++ line) (h.text ∙ ap (λ (l : Option ℕ). head ++ at_once l lines) none)
          ∙ append_assoc head (concat lines) line
          ∙ ap (λ (t : List ℕ). head ++ t) (sym (concat_one lines line))
          ∙ sym (ap (λ (l : Option ℕ). head ++ at_once l (lines ++ line ∷ [])) last);
      kept = ap (λ (ls : List (String Global)). map string_bytes ls) same ∙ h.kept
          ∙ ap (λ (l : Option ℕ). at_end l lines) none
          ∙ sym (ap (λ (l : Option ℕ). at_end l (lines ++ line ∷ [])) last);
    }

pub pushed_at_end : (most : ℕ) (old new : Chosen) (out head : List ℕ) (lines : List (List ℕ)) (line : List ℕ) →
    Holds old out head lines → old.choice.last ≡ Some most
    → new.choice ≡ old.choice → string_bytes new.text ≡ string_bytes old.text
    → (map string_bytes old.lines.items ≡ last_of (Some most) lines →
    map string_bytes new.lines.items ≡ last_of (Some most) (lines ++ line ∷ []))
    → Holds new out head (lines ++ line ∷ [])
pushed_at_end most old new out head lines line h some choice same kept =
    let last : new.choice.last ≡ Some most = ap (λ (c : Choice). c.last) choice ∙ some in
    record {
      text = ap (λ (t : List ℕ). out ++ t) same ∙ h.text ∙ ap (λ (l : Option ℕ). head ++ at_once l lines) some
          ∙ sym (ap (λ (l : Option ℕ). head ++ at_once l (lines ++ line ∷ [])) last);
      kept = kept (h.kept ∙ ap (λ (l : Option ℕ). at_end l lines) some)
          ∙ sym (ap (λ (l : Option ℕ). at_end l (lines ++ line ∷ [])) last);
    }

-- ---- the header's line

pub marked : (line : List ℕ) (offset : ℕ) → line ++ (codes " part ; at " ++ (decimal offset ++ 10 ∷ []))
    ≡ placed_line (line ++ codes " part") offset
marked line offset =
    let word = codes " part" in
    let comment = codes " ; at " in
    let rest = decimal offset ++ 10 ∷ [] in
    sym (append_assoc (line ++ word ++ comment) (decimal offset) (10 ∷ []) ∙ append_assoc (line ++ word) comment rest
    ∙ append_assoc line word (comment ++ rest))

none_at_once : (last : Option ℕ) → at_once last [] ≡ []
none_at_once None = refl
none_at_once (Some most) = refl

pub pushed_header : (old new : Chosen) (out head line : List ℕ) → Holds old out head [] → new.choice ≡ old.choice →
    new.lines.items ≡ old.lines.items
    → string_bytes new.text ≡ string_bytes old.text ++ line → Holds new out (head ++ line) []
pushed_header old new out head line h choice same text = record {
  text = ap (λ (t : List ℕ). out ++ t) text
      ∙ sym (append_assoc out (string_bytes old.text) line)
      ∙ ap (λ (t : List ℕ). t ++ line) (h.text ∙ ap (λ (t : List ℕ). head ++ t) (none_at_once old.choice.last)
      ∙ append-nil head)
      ∙ sym (ap (λ (t : List ℕ). (head ++ line) ++ t) (none_at_once new.choice.last) ∙ append-nil (head ++ line));
  kept = ap (λ (ls : List (String Global)). map string_bytes ls) same ∙ h.kept
      ∙ ap (λ (c : Choice). at_end c.last []) (sym choice);
}

-- ---- what is still to be told

all_lines : (last : Option ℕ) (lines : List (List ℕ)) → at_once last lines ++ concat (at_end last lines)
    ≡ concat (last_of last lines)
all_lines None lines = append-nil (concat lines)
all_lines (Some most) lines = refl

pub rest_is : (chosen : Chosen) (out bytes : List ℕ) → HasChosen chosen out bytes →
    chosen_lines chosen.choice bytes ≡ out ++ rest_of chosen
rest_is chosen out bytes h =
    let last = chosen.choice.last in
    let head = header_lines (header_of bytes) in
    let lines = taken_of chosen.choice bytes in
    let kept = concat (map string_bytes chosen.lines.items) in
    sym (
    sym (append_assoc out (string_bytes chosen.text) kept)
    ∙ ap (λ (t : List ℕ). t ++ kept) h.text
    ∙ ap (λ (k : List (List ℕ)). (head ++ at_once last lines) ++ concat k) h.kept
    ∙ append_assoc head (at_once last lines) (concat (at_end last lines))
    ∙ ap (λ (t : List ℕ). head ++ t) (all_lines last lines))

-- ---- lines that went out

-- what holds whatever the error is
pub if_err : {A E : Type 0} (r : Result A E) (P : Type 0) → P → OnErr r P
if_err (Ok a) P p = tt
if_err (Err e) P p = p

-- A line was cut off behind what went out.
pub cut_behind : (w x y : Account) (done line rest all : List ℕ) (n : ℕ) → WentOut w x done →
    WentOut x y (take n line) → done ++ (line ++ rest) ≡ all
    → (k : ℕ) × WentOut w y (take k all)
cut_behind w x y done line rest all n before out same =
    let short = cut n line rest in
    let whole : done ++ take n line ≡ take (length done + short.0) all =
    ap (λ (l : List ℕ). done ++ l) short.1 ∙ sym (front done (line ++ rest) short.0)
    ∙ ap (take (length done + short.0)) same in
    (length done + short.0, subst (WentOut w y) whole (out_on w x y done (take n line) before out))

-- what was written of a text that more stands behind
pub cut_before : (w y : Account) (line rest : List ℕ) (n : ℕ) → WentOut w y (take n line) → (k : ℕ) ×
    WentOut w y (take k (line ++ rest))
cut_before w y line rest n out = let short = cut n line rest in (short.0, subst (WentOut w y) short.1 out)

pub first_of : (lines rest : List (String Global)) (line : String Global) → lines ≡ line ∷ rest
    → concat (map string_bytes lines) ≡ string_bytes line ++ concat (map string_bytes rest)
first_of lines rest line first = ap (λ (ls : List (String Global)). concat (map string_bytes ls)) first

-- ---- what goes out at once

module _ (choice : Choice) (mid new : Chosen) (x y : Account) (printer : Printer) (out bytes before : List ℕ)
    (same : mid.choice ≡ choice) (kept : new.choice ≡ mid.choice)
    (holds : HasChosen mid out bytes) (shown : IsShown bytes printer) where
  told_now : choice.last ≡ None → TellsAtOnce None mid new x y →
      IsChosen choice printer new (out ++ string_bytes mid.text) bytes
  told_now none tells =
      let last : mid.choice.last ≡ None = ap (λ (c : Choice). c.last) same ∙ none in
      let empty : map string_bytes mid.lines.items ≡ [] = holds.kept
      ∙ ap (λ (l : Option ℕ). at_end l (taken_of mid.choice bytes)) last in
      record {
        shown = shown;
        holds = record {
          text = ap (λ (t : List ℕ). (out ++ string_bytes mid.text) ++ t) tells.1
              ∙ append-nil (out ++ string_bytes mid.text) ∙ holds.text
              ∙ ap (λ (c : Choice). header_lines (header_of bytes) ++ at_once c.last (taken_of c bytes)) (sym kept);
          kept = ap (λ (ls : List (String Global)). map string_bytes ls) tells.2 ∙ holds.kept
              ∙ ap (λ (c : Choice). at_end c.last (taken_of c bytes)) (sym kept);
        };
        told = subst (λ (l : Option ℕ). IsToldOf l choice (out ++ string_bytes mid.text) bytes) (sym none)
            (sym (append-nil (out ++ string_bytes mid.text))
            ∙ ap (λ (k : List (List ℕ)). (out ++ string_bytes mid.text) ++ concat k) (sym empty)
            ∙ append_assoc out (string_bytes mid.text) (concat (map string_bytes mid.lines.items))
            ∙ sym (rest_is mid out bytes holds)
            ∙ ap (λ (c : Choice). chosen_lines c bytes) same);
        same = kept ∙ same;
      }

  told_later : (most : ℕ) → choice.last ≡ Some most → IsToldOf (Some most) choice out before → new ≡ mid →
      IsChosen choice printer new (out ++ []) bytes
  told_later most some none unchanged =
      let same_out : out ≡ out ++ [] = sym (append-nil out) in
      subst (λ (o : List ℕ). IsChosen choice printer new o bytes) same_out (
      record {
        shown = shown;
        holds = subst (λ (c : Chosen). HasChosen c out bytes) (sym unchanged) holds;
        told = subst (λ (l : Option ℕ). IsToldOf l choice out bytes) (sym some) none;
        same = kept ∙ same;
      })

  pub chose : (last : Option ℕ) → choice.last ≡ last → IsToldOf last choice out before → TellsAtOnce last mid new x y
      → (lines : List ℕ) × WentOut x y lines × IsChosen choice printer new (out ++ lines) bytes
  chose None is told tells = (string_bytes mid.text, tells.0, told_now is tells)
  chose (Some most) is told tells = (
    [],
    subst (λ (z : Account). WentOut x z []) (sym tells.1) (nothing_out x),
    told_later most is told tells.0,
  )
