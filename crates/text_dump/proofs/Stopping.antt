-- How a dump of chosen lines goes on and ends.
use Rattle.std.proofs.Common.{◌≡◌, ◌≢◌, ℕ, ◌+◌, ◌*◌, ◌<◌, ◌≤◌, List, [], ◌∷◌, ◌++◌, length, take, Bool, Option}
use Rattle.std.proofs.Common.{Some, None, Ok, Err, refl, sym, ap, subst, ◌∙◌, append_assoc, append-nil, arith, inl, inr}
use Rattle.std.specs.Prelude.{IsTrue, ◌↔◌}
use Rattle.std.specs.List.{concat}
use Rattle.std.proofs.lemmas.List.{length-append}
use Rattle.std.specs.Io.KnownBytes.{Consumes, Keeps, IsAtEnd}
use Rattle.lf_codec.specs.Laws.{FaultsSoFarAreNotTruncated}
use Rattle.run_stream.specs.Account.{Account, WentOut}
use Rattle.run_stream.specs.Gathered.{IsPartRead, IsAllRead, GoesOn}
use Rattle.run_stream.proofs.GatheringLemmas.{begun, same_part, more_part, last_part}
use Rattle.run_stream.proofs.GatheringLemmas.{goes_from, goes_same, goes_more, goes_to_last}
use Rattle.run_stream.proofs.OutputLemmas.{nothing_out}
use Rattle.text_dump.specs.declared.choice.Choice.{Choice}
use Rattle.text_dump.specs.declared.chosen.Chosen.{Chosen}
use Rattle.text_dump.specs.declared.fault.DumpFault.{DumpFault}
use Rattle.text_dump.specs.declared.fault.DumpFault.TheVariants.{Read, Turns, Memory, Write}
use Rattle.text_dump.specs.declared.printer.Printer.{Printer}
use Rattle.text_dump.specs.Chosen.{chosen_lines}
use Rattle.text_dump.specs.Choosing.{HasChosen, IsToldOf, IsChosen, IsChosenBut, Chooses, Rests, IsWhollyChosen}
use Rattle.text_dump.specs.Choosing.{rest_of}
use Rattle.text_dump.specs.Dump.{HasFault, IsNone, IsShown, IsStopped, IsDumpedBy, IsToldSoFar, piece_len}
use Rattle.text_dump.proofs.Faults.{none_stands}
use Rattle.text_dump.proofs.Kept.{rest_is, last_of_none}
use Rattle.text_dump.proofs.Telling.{out_on, any_part, all_part, stops_in_part, cut_in_lines, none_missing, line_but}
use Rattle.text_dump.proofs.Ending.{IsStopCount, dumped_stopped, not_some}

-- no bytes have no lines
none_chosen : (choice : Choice) → chosen_lines choice [] ≡ []
none_chosen choice = ap concat (last_of_none choice.last)

-- What went out are the lines of a front.
told_front : (last : Option ℕ) (choice : Choice) (out bytes : List ℕ) → IsToldOf last choice out bytes
    → (front : List ℕ) × (more : List ℕ) × (bytes ≡ front ++ more) × (out ≡ chosen_lines choice front)
told_front None choice out bytes told = (bytes, [], sym (append-nil bytes), told)
told_front (Some most) choice out bytes told = ([], bytes, refl, told ∙ sym (none_chosen choice))

pub stops_told : (last : Option ℕ) (choice : Choice) (a b w x : Account) (out bytes more : List ℕ) →
    IsToldOf last choice out bytes → IsPartRead IsNone a b (bytes ++ more)
    → WentOut w x out → IsStopped (chosen_lines choice) a b w x [] Memory
stops_told last choice a b w x out bytes more told part went =
    let front = told_front last choice out bytes told in
    stops_in_part (chosen_lines choice) a b w x front.0 (front.1 ++ more)
    (subst (IsPartRead IsNone a b) (ap (λ (l : List ℕ). l ++ more) front.2 ∙ append_assoc front.0 front.1 more) part)
    (subst (WentOut w x) front.3 went)

-- ---- where memory ran out

-- Nothing was read, and nothing went out.
pub none_chosen_told : (last : Option ℕ) (choice : Choice) (a w : Account) → IsChosenBut last choice a a w w []
none_chosen_told None choice a w = record {
  bytes = [];
  more = [];
  part = begun IsNone a (λ bad. bad);
  few = omega arith;
  out = subst (WentOut w w) (sym (append-nil (chosen_lines choice []) ∙ none_chosen choice)) (nothing_out w);
}
none_chosen_told (Some most) choice a w = inr (nothing_out w)

-- All was read, and all chosen lines went out.
pub chosen_whole : (last : Option ℕ) (choice : Choice) (a b w x : Account) (bytes : List ℕ) →
    IsAllRead HasFault piece_len a b bytes → WentOut w x (chosen_lines choice bytes)
    → IsChosenBut last choice a b w x []
chosen_whole None choice a b w x bytes all out = none_missing piece_len (chosen_lines choice) a b w x bytes all out
chosen_whole (Some most) choice a b w x bytes all out =
    inl (none_missing 0 (chosen_lines choice) a b w x bytes all out)

-- Of the bytes before the last piece this went out.
pub chosen_but_piece : (last : Option ℕ) (choice : Choice) (a b w x : Account) (out bytes piece : List ℕ) →
    length piece ≤ piece_len → IsToldOf last choice out bytes → IsPartRead IsNone a b (bytes ++ piece)
    → WentOut w x out → IsChosenBut last choice a b w x []
chosen_but_piece None choice a b w x out bytes piece few told part went = record {
  bytes = bytes;
  more = piece;
  part = part;
  few = few;
  out = subst (WentOut w x) (told ∙ sym (append-nil (chosen_lines choice bytes))) went;
}
chosen_but_piece (Some most) choice a b w x out bytes piece few told part went = inr (subst (WentOut w x) told went)

-- The line went out behind what did.
pub chosen_line : (last : Option ℕ) (choice : Choice) (a b w x y : Account) (line : List ℕ) → WentOut x y line →
    IsChosenBut last choice a b w x [] → IsChosenBut last choice a b w y line
chosen_line None choice a b w x y line out told = line_but w x y line out piece_len (chosen_lines choice) a b told
chosen_line (Some most) choice a b w x y line out (inl told) =
    inl (line_but w x y line out 0 (chosen_lines choice) a b told)
chosen_line (Some most) choice a b w x y line out (inr none) = inr (out_on w x y [] line none out)

-- ---- counts where a dump stopped

pub memory_count : (c x : Account) (turns : ℕ) → c.calls ≤ turns → c.failures ≡ 0 → x.failures ≡ 0 →
    IsStopCount c x turns Memory
memory_count c x turns reads fine written = record {
  reads = reads;
  read = (λ bad. absurd cc, λ some. absurd (not_some c.failures fine some));
  turned = λ bad. absurd cc;
  write = (λ bad. absurd cc, λ some. absurd (not_some x.failures written some));
}

pub write_count : (c x : Account) (turns : ℕ) → c.calls ≤ turns → c.failures ≡ 0 → 0 < x.failures →
    IsStopCount c x turns Write
write_count c x turns reads fine failed = record {
  reads = reads;
  read = (λ bad. absurd cc, λ some. absurd (not_some c.failures fine some));
  turned = λ bad. absurd cc;
  write = (λ _. failed, λ _. refl);
}

-- Lines went out as far as the writer took them, whatever the reads came to.
pub dumped_cut : (lines : List ℕ → List ℕ) (a c w x y : Account) (turns : ℕ) (bytes early late : List ℕ) (n : ℕ) →
    c.calls ≤ turns → IsPartRead IsNone a c bytes
    → lines bytes ≡ early ++ late → WentOut w x early → WentOut x y (take n late) → 0 < y.failures →
    IsDumpedBy lines a c w y turns (λ _. []) (Err Write)
dumped_cut lines a c w x y turns bytes early late n reads part same before out failed = record {
  reads = reads;
  whole = tt;
  stopped = cut_in_lines lines a c w x y bytes early late n part same before out;
  read = (λ bad. absurd cc, λ some. absurd (not_some y.failures some.1 failed));
  turns_ran_out = λ bad. absurd cc;
  write = (λ _. failed, λ _. refl);
}

-- ---- what was chosen so far

-- The reads answered these bytes, and this went out of them.
pub record IsChoosing (old new writer writer' : Account) (turn : ℕ) (choice : Choice) (printer : Printer)
    (chosen : Chosen) : Type 0 where
  pub bytes : List ℕ
  pub out : List ℕ
  pub chosen_so_far : IsChosen choice printer chosen out bytes
  pub part : IsPartRead HasFault old new bytes
  pub goes_on : GoesOn old.pieces new.pieces
  pub went : WentOut writer writer' out
  pub size : length bytes ≤ turn * piece_len

told_nothing : (last : Option ℕ) (choice : Choice) → IsToldOf last choice [] []
told_nothing None choice = sym (none_chosen choice)
told_nothing (Some most) choice = refl

pub choosing_start : FaultsSoFarAreNotTruncated → (a w : Account) (printer : Printer) (chosen : Chosen) →
    IsShown [] printer → HasChosen chosen [] []
    → IsChoosing a a w w 0 chosen.choice printer chosen
choosing_start so_far a w printer chosen shown holds = record {
  bytes = [];
  out = [];
  chosen_so_far = record {
    shown = shown;
    holds = holds;
    told = told_nothing chosen.choice.last chosen.choice;
    same =
        refl;
  };
  part = begun HasFault a (none_stands so_far [] refl);
  goes_on = goes_from a.pieces;
  went = nothing_out w;
  size = omega arith;
}

pub choosing_same : (a b c w x : Account) (turn : ℕ) (choice : Choice) (printer : Printer) (chosen : Chosen) →
    IsChoosing a b w x turn choice printer chosen
    → c.pieces ≡ b.pieces → Keeps b.known c.known → IsChoosing a c w x (turn + 1) choice printer chosen
choosing_same a b c w x turn choice printer chosen t pieces known = record {
  bytes = t.bytes;
  out = t.out;
  chosen_so_far = t.chosen_so_far;
  part = same_part HasFault a b c t.bytes t.part pieces known;
  goes_on = goes_same a.pieces b.pieces c.pieces t.goes_on pieces;
  went = t.went;
  size = omega (arith, t.size);
}

module _ (choice : Choice) (a b w x y : Account) (turn turns : ℕ) (printer : Printer) (chosen : Chosen)
    (t : IsChoosing a b w x turn choice printer chosen)
    (reads : b.calls ≤ turns) where
  rest_same : chosen_lines choice t.bytes ≡ t.out ++ rest_of chosen
  rest_same = ap (λ (c : Choice). chosen_lines c t.bytes) (sym t.chosen_so_far.same)
      ∙ rest_is chosen t.out t.bytes t.chosen_so_far.holds

  rest_told : WentOut x y (rest_of chosen) → IsToldSoFar (chosen_lines choice) a b w y []
  rest_told went =
      record {
        bytes = t.bytes;
        part = t.part;
        unended = t.goes_on;
        out = subst (WentOut w y) (sym rest_same ∙ sym (append-nil (chosen_lines choice t.bytes)))
            (out_on w x y t.out (rest_of chosen) t.went went);
      }

  rest_cut : (answer : DumpFault) → answer ≡ Write → 0 < y.failures → (n : ℕ) → WentOut x y (take n (rest_of chosen))
      → IsDumpedBy (chosen_lines choice) a b w y turns (λ _. []) (Err answer)
  rest_cut answer is failed n out =
      rw is (dumped_cut (chosen_lines choice) a b w x y turns t.bytes t.out (rest_of chosen) n reads
      (any_part a b t.bytes t.part) rest_same t.went out failed)

  read_stop : (answer : DumpFault) → answer ≡ Read → 0 < b.failures → y.failures ≡ 0 → WentOut x y (rest_of chosen)
      → IsDumpedBy (chosen_lines choice) a b w y turns (λ _. []) (Err answer)
  read_stop answer is failed written went =
      rw is (dumped_stopped (chosen_lines choice) a b w y turns (λ _. []) Read
      (record {
        reads = reads;
        read = (λ _. failed, λ _. refl);
        turned = λ bad. absurd cc;
        write = (λ bad. absurd cc, λ some. absurd (not_some y.failures written some));
      }) (rest_told went))

  turns_stop : (answer : DumpFault) → answer ≡ Turns → b.failures ≡ 0 → b.calls ≡ turns → y.failures ≡ 0 →
      WentOut x y (rest_of chosen)
      → IsDumpedBy (chosen_lines choice) a b w y turns (λ _. []) (Err answer)
  turns_stop answer is fine used written went =
      rw is (dumped_stopped (chosen_lines choice) a b w y turns (λ _. []) Turns
      (record {
        reads = reads;
        read = (λ bad. absurd cc, λ some. absurd (not_some b.failures fine some));
        turned = λ _. used;
        write = (λ bad. absurd cc, λ some. absurd (not_some y.failures written some));
      }) (rest_told went))

  -- A read failed.
  pub stopped_by_read : (answer : DumpFault) → Rests x y chosen Read answer → 0 < b.failures →
      IsDumpedBy (chosen_lines choice) a b w y turns (λ _. []) (Err answer)
  stopped_by_read answer (inl whole) failed = read_stop answer whole.0 failed whole.1 whole.2
  stopped_by_read answer (inr cut) failed = rest_cut answer cut.0 cut.1 cut.2.0 cut.2.1

  -- The turns were used up.
  pub stopped_by_turns : (answer : DumpFault) → Rests x y chosen Turns answer → b.failures ≡ 0 → b.calls ≡ turns →
      IsDumpedBy (chosen_lines choice) a b w y turns (λ _. []) (Err answer)
  stopped_by_turns answer (inl whole) fine used = turns_stop answer whole.0 fine used whole.1 whole.2
  stopped_by_turns answer (inr cut) fine used = rest_cut answer cut.0 cut.1 cut.2.0 cut.2.1

-- ---- one more read

module _ (a b c w x : Account) (turn turns : ℕ) (choice : Choice) (old : Printer) (was : Chosen)
    (t : IsChoosing a b w x turn choice old was) (piece : List ℕ)
    (pieces : c.pieces ≡ b.pieces ++ piece ∷ []) (known : Consumes b.known c.known piece)
    (one_read : length piece ≤ piece_len)
    (reads : c.calls ≤ turns) (fine : c.failures ≡ 0) where
  more_read : IsPartRead IsNone a c (t.bytes ++ piece)
  more_read = more_part IsNone a b c t.bytes (any_part a b t.bytes t.part) piece pieces known (λ bad. bad)

  -- A read answered no bytes.
  pub chosen_at_end : x.failures ≡ 0 → piece ≡ [] → IsAtEnd c.known → IsWhollyChosen a c w x turns old was
  chosen_at_end written none at_end =
      let same : t.bytes ≡ t.bytes ++ piece = sym (ap (λ (p : List ℕ). t.bytes ++ p) none ∙ append-nil t.bytes) in
      record {
        reads = reads;
        read = fine;
        written = written;
        bytes = t.bytes ++ piece;
        out = t.out;
        shown = subst (λ (bs : List ℕ). IsShown bs old) same t.chosen_so_far.shown;
        all = last_part HasFault a b c t.bytes t.part piece pieces known piece_len one_read (λ _. none) (λ _. at_end);
        once = goes_to_last a.pieces b.pieces c.pieces t.goes_on piece pieces;
        went = t.went;
        holds = subst (λ (bs : List ℕ). HasChosen was t.out bs) same t.chosen_so_far.holds;
      }

  module _ (y : Account) (new : Printer) (now : Chosen) where
    pub chosen_last : y.failures ≡ 0 → (enough : Bool) → IsTrue enough →
        Chooses x y choice new now t.out t.bytes piece (Ok enough) → IsWhollyChosen a c w y turns new now
    chosen_last written enough is h =
        let fault = h.0.0 is in
        record {
          reads = reads;
          read = fine;
          written = written;
          bytes = t.bytes ++ piece;
          out = t.out ++ h.1.0;
          shown = h.1.2.shown;
          all = last_part HasFault a b c t.bytes t.part piece pieces known piece_len one_read
              (λ sound. absurd (sound fault)) (λ sound. absurd (sound fault));
          once = goes_to_last a.pieces b.pieces c.pieces t.goes_on piece pieces;
          went = out_on w x y t.out h.1.0 t.went h.1.1;
          holds = h.1.2.holds;
        }

    pub choosing_more : piece ≢ [] → (enough : Bool) → ¬ IsTrue enough →
        Chooses x y choice new now t.out t.bytes piece (Ok enough) → IsChoosing a c w y (turn + 1) choice new now
    choosing_more some enough not h = record {
      bytes = t.bytes ++ piece;
      out = t.out ++ h.1.0;
      chosen_so_far = h.1.2;
      part = more_part HasFault a b c t.bytes t.part piece pieces known (λ fault. not (h.0.1 fault));
      goes_on = goes_more a.pieces b.pieces c.pieces t.goes_on piece pieces some;
      went = out_on w x y t.out h.1.0 t.went h.1.1;
      size = omega (arith, t.size, one_read, length-append t.bytes piece);
    }

    pub chosen_stop : (fault : DumpFault) → Chooses x y choice new now t.out t.bytes piece (Err fault) →
        x.failures ≡ 0 → ((fault ≡ Write) ↔ (0 < y.failures))
        → IsDumpedBy (chosen_lines choice) a c w y turns (λ _. []) (Err fault)
    chosen_stop Read h written write = absurd h
    chosen_stop Turns h written write = absurd h
    chosen_stop Memory same written write =
        dumped_stopped (chosen_lines choice) a c w y turns (λ _. []) Memory
        (memory_count c y turns reads fine (ap (λ (z : Account). z.failures) same ∙ written))
        (stops_told choice.last choice a c w y t.out t.bytes piece t.chosen_so_far.told more_read
        (subst (λ (z : Account). WentOut w z t.out) (sym same) t.went))
    chosen_stop Write h written write = dumped_cut (chosen_lines choice) a c w x y turns (t.bytes ++ piece) t.out h.0
        h.2.0 reads more_read h.1 t.went h.2.1 (write.0 refl)

    -- Memory ran out: the lines of the piece are missing.
    pub chosen_but : (fault : DumpFault) → fault ≡ Memory →
        Chooses x y choice new now t.out t.bytes piece (Err fault) → IsChosenBut choice.last choice a c w y []
    chosen_but Read is h = absurd h
    chosen_but Turns is h = absurd h
    chosen_but Memory is same = chosen_but_piece choice.last choice a c w y t.out t.bytes piece one_read
        t.chosen_so_far.told more_read (subst (λ (z : Account). WentOut w z t.out) (sym same) t.went)
    chosen_but Write is h = absurd cc

-- A call that stops by another fault does not stop by this one.
pub rests_otherwise : (x y : Account) (chosen : Chosen) (fault answer : DumpFault) → Rests x y chosen fault answer →
    fault ≢ Memory → answer ≢ Memory
rests_otherwise x y chosen fault answer (inl whole) other is = other (sym whole.0 ∙ is)
rests_otherwise x y chosen fault answer (inr cut) other is = let same : Write ≡ Memory = sym cut.0 ∙ is in cc

-- ---- the end

module _ (choice : Choice) (a c w x y : Account) (turns : ℕ) (printer : Printer) (chosen : Chosen)
    (t : IsWhollyChosen a c w x turns printer chosen) (same : chosen.choice ≡ choice) where
  whole_same : chosen_lines choice t.bytes ≡ t.out ++ rest_of chosen
  whole_same = ap (λ (k : Choice). chosen_lines k t.bytes) (sym same) ∙ rest_is chosen t.out t.bytes t.holds

  pub whole_cut : (n : ℕ) → 0 < y.failures → WentOut x y (take n (rest_of chosen)) →
      IsDumpedBy (chosen_lines choice) a c w y turns (λ _. []) (Err Write)
  whole_cut n failed out =
      dumped_cut (chosen_lines choice) a c w x y turns t.bytes t.out (rest_of chosen) n t.reads
      (all_part a c t.bytes t.all) whole_same t.went out failed

  pub whole_told : WentOut x y (rest_of chosen) → WentOut w y (chosen_lines choice t.bytes)
  whole_told out = subst (WentOut w y) (sym whole_same) (out_on w x y t.out (rest_of chosen) t.went out)
