-- What broke is final, whatever bytes follow.
use Rattle.std.proofs.Common.{◌≡◌, ◌⊎◌, ℕ, ◌+◌, ◌<◌, ◌≤◌, cond, eqb, List, [], ◌∷◌, ◌++◌, length, Option, Some, None}
use Rattle.std.proofs.Common.{refl, sym, ap, ◌∙◌, subst, append_assoc, inl, inr, ⊎_elim, arith}
use Rattle.std.specs.Prelude.{◌==◌, slice_get, IfSome}
use Rattle.std.specs.List.{AllByRecursion, All}
use Rattle.std.proofs.lemmas.Bool.{cases_lt}
use Rattle.std.proofs.lemmas.List.{append-nil, length-append, map-append}
use Rattle.std.proofs.lemmas.List.Elements.{filter-append}
use Rattle.std.proofs.lemmas.List.Sums.{sum_by-append}
use Rattle.std.proofs.lemmas.List.Sorted.{IsPermutation-map, IsPermutation-sym, All-permutation, sum_by-IsPermutation}
use Rattle.lf_rules.specs.declared.shape.Shape.{Shape}
use Rattle.lf_rules.specs.declared.event.Record.{Record}
use Rattle.lf_rules.specs.declared.rule.Rule.{Rule}
use Rattle.lf_rules.specs.Address.{FlatMemory, flat_memory}
use Rattle.lf_rules.specs.Fits.{Bytes, Fits}
use Rattle.lf_rules.specs.Order.{log_at}
use Rattle.lf_rules.specs.Numbers.{all_records, numbers_of, bank_numbers, times, IsDouble, IsNumbered}
use Rattle.lf_rules.specs.Outcomes.{first_local}
use Rattle.lf_rules.specs.Run.{of_log, of_bank, names, BreaksAt}
use Rattle.lf_rules.specs.Table.{OfPort, OfBank}
use Rattle.lf_logs.specs.Reordering.{first_with}
use Rattle.lf_logs.proofs.Reordered.{first_with-number}
use Rattle.lf_logs.proofs.GivenOut.{first_with-all}
use Rattle.lf_codec.specs.declared.header.Header.{Header}
use Rattle.lf_codec.specs.Laws.{ReadingIsExact, HeaderIsOfItsBytes, AreBytes, WhatIsReadFits}
use Rattle.lf_codec.specs.Reading.{Reading, reading_of, read_on, header_of}
use Rattle.lf_codec.specs.Reader.{HasRead}
use Rattle.lf_codec.specs.Trace.{IsTrace}
use Rattle.lf_codec.proofs.Pieces.{has_read_on}
use Rattle.lf_verdict.specs.declared.answer.Fault.{Fault}
use Rattle.lf_verdict.specs.declared.answer.Fault.TheVariants.{Missing, Double, Port, Bank, Cycle}
use Rattle.lf_verdict.specs.declared.answer.Outcome.{Outcome}
use Rattle.lf_verdict.specs.declared.answer.Outcome.TheVariants.{Yes, No, Refused}
use Rattle.lf_verdict.specs.declared.answer.HeaderField.{HeaderField}
use Rattle.lf_verdict.specs.declared.session.intake.Intake.{Intake}
use Rattle.lf_verdict.specs.declared.session.standing.Standing.{Standing}
use Rattle.lf_verdict.specs.Legal.{Agrees, IsTraceFor}
use Rattle.lf_verdict.specs.Parts.{HasWholeNumbers, PortRuns, BankRuns, PartsRun}
use Rattle.lf_verdict.specs.inner.Fed.{IsRunning, HasJudged}
use Rattle.lf_verdict.specs.inner.Coming.{logs_so_far}
use Rattle.lf_verdict.specs.Outcome.{Differs, IsFaultOfLogs, IsOutcomeOf}
use Rattle.lf_verdict.proofs.Counts.{no_double}
use Rattle.lf_verdict.proofs.Sessions.{header_stays, both_bytes}
use Rattle.lf_verdict.proofs.Settled.{bank_moved}
use Rattle.lf_verdict.proofs.Traces.{log_of_logs, records_fit}
use Rattle.lf_verdict.specs.declared.session.breaking.PartFault.{PartFault}
use Rattle.lf_verdict.specs.declared.session.breaking.Upon.{Upon}
use Rattle.lf_verdict.specs.Breaking.{first_offset, AreFirst, BankBreaks, IsFaultOfPart}
use Rattle.lf_verdict.specs.inner.Noting.{IsPartBroken, NamesRecord}
use Rattle.lf_verdict.specs.Final.{IsNoLater, IsNoYesAfter, IsFinal, Begins, PartFaultsAreFinal, OtherHeadersAreFinal}
use Rattle.lf_verdict.specs.Final.{IsEarliest}
use Rattle.lf_verdict.proofs.Breaks.{breaks_more, no_break, one_break, get_below, begins_with, IsAt, all_at, all_left}
use Rattle.lf_verdict.specs.declared.session.breaking.Broken.{Broken}
use Rattle.lf_verdict.specs.declared.answer.Refusal.TheVariants as refusals
use Rattle.lf_verdict.specs.declared.answer.HeaderField.TheVariants as fields
use Rattle.lf_verdict.specs.declared.session.breaking.PartFault.TheVariants as parts
use Rattle.lf_verdict.specs.declared.session.breaking.Broken.TheVariants as broken

-- ---- with more records behind them

module _ (shape : Shape) (memory : FlatMemory) (records rest : List Record)
    (fit : AllByRecursion (Fits shape) (records ++ rest)) where
  abbrev whole_list : List Record
  whole_list = records ++ rest

  abbrev all_logs : List (List Record)
  all_logs = logs_so_far shape whole_list

  port_breaks : (port at : ℕ) (rule : Rule) → port < shape.ports →
      BreaksAt OfPort shape (first_local memory) (of_log port records) at rule
      → BreaksAt OfPort shape (first_local memory) (log_at all_logs port) at rule
  port_breaks port at rule lt breaks =
      let same : log_at all_logs port ≡ of_log port records ++ of_log port rest =
      log_of_logs (shape.ports + shape.banks) port whole_list (omega arith)
      ∙ filter-append (λ (r : Record). r.log == port) records rest in
      subst (λ (rs : List Record). BreaksAt OfPort shape (first_local memory) rs at rule) (sym same)
      (breaks_more OfPort shape (first_local memory) (of_log port records) (of_log port rest) at rule breaks)

  bank_split : (bank : ℕ) → of_bank bank whole_list ≡ of_bank bank records ++ of_bank bank rest
  bank_split bank = filter-append (names bank) records rest

  double_stays : (bank k : ℕ) → IsDouble (numbers_of (of_bank bank records)) k → IsDouble (bank_numbers all_logs bank) k
  double_stays bank k double =
      let count = λ (n : ℕ). cond (eqb n k) 1 0 in
      let number = λ (r : Record). r.number in
      let split : times k (numbers_of (of_bank bank whole_list)) ≡ times k (numbers_of (of_bank bank records))
      + times k (numbers_of (of_bank bank rest)) =
      ap (λ (rs : List Record). times k (numbers_of rs)) (bank_split bank)
      ∙ ap (times k) (map-append number (of_bank bank records) (of_bank bank rest))
      ∙ sum_by-append count (numbers_of (of_bank bank records)) (numbers_of (of_bank bank rest)) in
      let moved : times k (bank_numbers all_logs bank) ≡ times k (numbers_of (of_bank bank whole_list)) =
      sum_by-IsPermutation count (numbers_of (of_bank bank whole_list)) (bank_numbers all_logs bank)
      (IsPermutation-map number (of_bank bank whole_list) (of_bank bank (all_records all_logs))
      (bank_moved shape whole_list bank fit)) in
      omega (arith, split, moved, double)

  -- the bank's records of the whole, in the order of their numbers, begin with those
  begins : (bank : ℕ) (gave rs : List Record) → AreFirst (of_bank bank records) gave → IsNumbered all_logs bank rs →
      (zs : List Record) × (rs ≡ gave ++ zs)
  begins bank gave rs first numbered =
      let there : All (IsAt rs) (of_bank bank whole_list) =
      All-permutation (IsAt rs) (of_bank bank (all_records all_logs)) (of_bank bank whole_list)
      (IsPermutation-sym _ _ (bank_moved shape whole_list bank fit))
      (All-permutation (IsAt rs) rs (of_bank bank (all_records all_logs)) numbered.same (all_at rs numbered.numbers)) in
      let came : AllByRecursion (IsAt rs) (of_bank bank records) =
      all_left (IsAt rs) (of_bank bank records) (of_bank bank rest) (subst (All (IsAt rs)) (bank_split bank) there) in
      begins_with gave rs (λ k lt.
      let x = get_below gave k lt in
      let is : first_with k (of_bank bank records) ≡ Some x.0 = sym (first k lt) ∙ x.1 in
      let at : slice_get rs (x.0).number ≡ Some x.0 = first_with-all (IsAt rs) k (of_bank bank records) x.0 came is in
      let number : (x.0).number ≡ k = first_with-number k (of_bank bank records) x.0 is in
      ap (λ n. slice_get rs n) (sym number) ∙ at ∙ sym x.1)

  bank_breaks : (bank number : ℕ) (rule : Rule) (rs : List Record) →
      BankBreaks shape memory records bank number rule → IsNumbered all_logs bank rs
      → BreaksAt OfBank shape (first_local memory) rs number rule
  bank_breaks bank number rule rs found numbered =
      let whole = begins bank found.gave rs found.first numbered in
      subst (λ (xs : List Record). BreaksAt OfBank shape (first_local memory) xs number rule) (sym whole.1)
      (breaks_more OfBank shape (first_local memory) found.gave whole.0 number rule found.breaks)

  -- what is told of the whole
  port_runs_not : (port at : ℕ) (rule : Rule) → IsFaultOfPart shape memory records (parts.Port port at rule) →
      PortRuns shape memory all_logs port → ⊥
  port_runs_not port at rule found runs = no_break OfPort shape (first_local memory) (log_at all_logs port) at rule
      (port_breaks port at rule found.0 found.1) runs

  bank_runs_not : (bank number : ℕ) (rule : Rule) → IsFaultOfPart shape memory records (parts.Bank bank number rule) →
      BankRuns shape memory all_logs bank → ⊥
  bank_runs_not bank number rule found runs =
      no_break OfBank shape (first_local memory) runs.records number rule
      (bank_breaks bank number rule runs.records found runs.numbered) runs.run

  not_whole : (bank k : ℕ) → IsFaultOfPart shape memory records (parts.Double bank k) →
      HasWholeNumbers all_logs bank → ⊥
  not_whole bank k found whole = no_double (bank_numbers all_logs bank) whole k (double_stays bank k found.1)

  below_or_same : (a b : ℕ) → (b < a → ⊥) → (a < b) ⊎ (a ≡ b)
  below_or_same a b not_above = ⊎_elim (λ (lt : a < b). inl lt)
      (λ (le : b ≤ a). ⊎_elim (λ (lt : b < a). absurd (not_above lt)) (λ (le' : a ≤ b). inr (omega arith))
      (cases_lt b a)) (cases_lt a b)

  no_later : (found : PartFault) (told : Fault) → IsFaultOfPart shape memory records found →
      IsFaultOfLogs shape memory all_logs told → IsNoLater found told
  no_later (parts.Double bank k) (Missing bank' k') is other = ⊎_elim
      (λ (lt : bank' < bank). inl lt)
      (λ (same : bank' ≡ bank).
      let double : IsDouble (bank_numbers all_logs bank') k =
      subst (λ b. IsDouble (bank_numbers all_logs b) k) (sym same) (double_stays bank k is.1) in
      ⊎_elim
      (λ (lt : k' < k). inr (same, lt))
      (λ (one : k' ≡ k). let none = other.1.0 in let here : IsDouble (bank_numbers all_logs bank') k' =
      subst (IsDouble (bank_numbers all_logs bank')) (sym one) double in absurd (omega (arith, none, here)))
      (below_or_same k' k (λ lt. (other.0.numbers_before k lt).1 double)))
      (below_or_same bank' bank (λ lt. not_whole bank k is (other.0.banks_before bank lt)))
  no_later (parts.Double bank k) (Double bank' k') is other = ⊎_elim
      (λ (lt : bank' < bank). inl lt)
      (λ (same : bank' ≡ bank).
      let double : IsDouble (bank_numbers all_logs bank') k =
      subst (λ b. IsDouble (bank_numbers all_logs b) k) (sym same) (double_stays bank k is.1) in
      ⊎_elim
      (λ (lt : k' < k). inr (same, omega arith))
      (λ (one : k' ≡ k). inr (same, omega arith))
      (below_or_same k' k (λ lt. (other.0.numbers_before k lt).1 double)))
      (below_or_same bank' bank (λ lt. not_whole bank k is (other.0.banks_before bank lt)))
  no_later (parts.Double bank k) (Port port at rule) is other = absurd (not_whole bank k is (other.numbers bank is.0))
  no_later (parts.Double bank k) (Bank bank' number rule) is other =
      absurd (not_whole bank k is (other.numbers bank is.0))
  no_later (parts.Double bank k) (Cycle ring) is other = absurd (not_whole bank k is (other.parts.numbers bank is.0))
  no_later (parts.Port port at rule) (Missing bank k) is other = tt
  no_later (parts.Port port at rule) (Double bank k) is other = tt
  no_later (parts.Port port at rule) (Port port' at' rule') is other = ⊎_elim
      (λ (lt : port' < port). inl lt)
      (λ (same : port' ≡ port).
      let both = one_break OfPort shape (first_local memory) (log_at all_logs port) at at' rule rule'
      (port_breaks port at rule is.0 is.1)
      (subst (λ p. BreaksAt OfPort shape (first_local memory) (log_at all_logs p) at' rule') same other.breaks) in
      let at_is = both.0 in let rule_is = both.1 in inr (cc))
      (below_or_same port' port (λ lt. port_runs_not port at rule is (other.ports_before port lt)))
  no_later (parts.Port port at rule) (Bank bank number rule') is other =
      absurd (port_runs_not port at rule is (other.ports port is.0))
  no_later (parts.Port port at rule) (Cycle ring) is other =
      absurd (port_runs_not port at rule is (other.parts.ports port is.0))
  no_later (parts.Bank bank number rule) (Missing bank' k) is other = tt
  no_later (parts.Bank bank number rule) (Double bank' k) is other = tt
  no_later (parts.Bank bank number rule) (Port port at rule') is other = tt
  no_later (parts.Bank bank number rule) (Bank bank' number' rule') is other = ⊎_elim
      (λ (lt : bank' < bank). inl lt)
      (λ (same : bank' ≡ bank).
      let both = one_break OfBank shape (first_local memory) other.records number number' rule rule'
      (bank_breaks bank number rule other.records is (subst (λ b. IsNumbered all_logs b other.records) same
      other.numbered)) other.breaks in
      let number_is = both.0 in let rule_is = both.1 in inr (cc))
      (below_or_same bank' bank (λ lt. bank_runs_not bank number rule is (other.banks_before bank lt)))
  no_later (parts.Bank bank number rule) (Cycle ring) is other =
      absurd (bank_runs_not bank number rule is (other.parts.banks bank is.is_bank))

  no_yes : (found : PartFault) → IsFaultOfPart shape memory records found →
      ((bank : ℕ) → bank < shape.banks → HasWholeNumbers all_logs bank)
      → ((port : ℕ) → port < shape.ports → PortRuns shape memory all_logs port) →
      ((bank : ℕ) → bank < shape.banks → BankRuns shape memory all_logs bank) → ⊥
  no_yes (parts.Double bank k) is numbers ports banks = not_whole bank k is (numbers bank is.0)
  no_yes (parts.Port port at rule) is numbers ports banks = port_runs_not port at rule is (ports port is.0)
  no_yes (parts.Bank bank number rule) is numbers ports banks =
      bank_runs_not bank number rule is (banks bank is.is_bank)

-- ---- with more bytes behind them

-- what a whole trace holds, of which these bytes are the beginning
record OfWhole (bytes more : List ℕ) (h : Header) (records rest : List Record) (header : Header)
    (memory : List (ℕ × Bytes)) (all : List Record) : Type 0 where
  pub same_header : header ≡ h
  pub same_memory : memory ≡ (reading_of bytes).memory
  pub behind : List Record
  pub same_records : all ≡ records ++ behind

no_more : (xs ys : List (ℕ × Bytes)) → length (xs ++ ys) ≡ length xs → xs ++ ys ≡ xs
no_more xs [] e = append-nil xs
no_more xs (y ∷ ys) e = absurd (omega (arith, length-append xs (y ∷ ys)))

-- a reading from which all was taken
abbrev pub nothing : List ℕ → Reading
nothing bytes = record (reading_of bytes) { memory = []; records = [] }

pub has : (bytes : List ℕ) → AreBytes bytes →
    HasRead (nothing bytes) bytes (reading_of bytes).memory (reading_of bytes).records
has bytes are = record {
  are_bytes = are;
  same = λ i. record (reading_of bytes) {
    memory = sym (append-nil (reading_of bytes).memory) i;
    records = sym (append-nil (reading_of bytes).records) i;
  };
}

module _ (exact : ReadingIsExact) (law : HeaderIsOfItsBytes) (bytes more : List ℕ) (h : Header)
    (records rest : List Record) (are : AreBytes bytes) (are_more : AreBytes more)
    (read : header_of bytes ≡ Some h) (whole : length (reading_of bytes).memory ≡ h.memory_count)
    (split : (reading_of bytes).records ≡ records ++ rest) where
  abbrev now : Reading
  now = reading_of bytes

  traced : (header : Header) (memory : List (ℕ × Bytes)) (all : List Record) →
      IsTrace (bytes ++ more) header memory all → OfWhole bytes more h records rest header memory all
  traced header memory all trace =
      let after = has_read_on (nothing bytes) bytes more now.memory now.records are_more (has bytes are) in
      let later = read_on (nothing bytes) more in
      let read_as = (exact (bytes ++ more) header memory all after.are_bytes).1 trace in
      let one : Some header ≡ Some h = sym read_as.1 ∙ header_stays law bytes more h read in
      let same : header ≡ h = cc in
      let memory_is : memory ≡ now.memory ++ later.memory = sym read_as.2 ∙ ap (λ (q : Reading). q.memory) after.same in
      let records_are : all ≡ now.records ++ later.records =
      sym read_as.3 ∙ ap (λ (q : Reading). q.records) after.same in
      let long : length (now.memory ++ later.memory) ≡ length now.memory =
      sym (ap length memory_is) ∙ sym trace.fits.memory_count ∙ ap (λ (g : Header). g.memory_count) same
      ∙ sym whole in
      record {
        same_header = same;
        same_memory = memory_is ∙ no_more now.memory later.memory long;
        behind = rest ++ later.records;
        same_records = records_are ∙ ap (λ (rs : List Record). rs ++ later.records) split
            ∙ append_assoc records rest later.records;
      }

pub agrees_or_differs : (shape : Shape) (h : Header) (field : HeaderField) → Agrees shape h → Differs shape h field → ⊥
agrees_or_differs shape h fields.Ports agrees differs = differs agrees.ports
agrees_or_differs shape h fields.Banks agrees differs = differs.1 agrees.banks
agrees_or_differs shape h fields.Block agrees differs = differs.2 agrees.block
agrees_or_differs shape h fields.Factor agrees differs = differs.3 agrees.factor

module _ (exact : ReadingIsExact) (law : HeaderIsOfItsBytes) (shape : Shape) (bytes more : List ℕ) (h : Header)
    (records rest : List Record) (found : PartFault) (upon : Option Upon) (are : AreBytes bytes)
    (are_more : AreBytes more)
    (read : header_of bytes ≡ Some h) (agrees : Agrees shape h)
    (whole : length (reading_of bytes).memory ≡ h.memory_count)
    (split : (reading_of bytes).records ≡ records ++ rest)
    (is : IsFaultOfPart shape (flat_memory (reading_of bytes).memory) records found) where
  abbrev start : FlatMemory
  start = flat_memory (reading_of bytes).memory

  -- the logs of the whole
  trace_of : (memory : List (ℕ × Bytes)) (logs : List (List Record)) → IsTraceFor shape (bytes ++ more) memory logs
      → (behind : List Record) × (AllByRecursion (Fits shape) (records ++ behind) × (flat_memory memory ≡ start) ×
      (logs ≡ logs_so_far shape (records ++ behind)))
  trace_of memory logs t =
      let all = traced exact law bytes more h records rest are are_more read whole split t.header memory t.records
      t.trace in (
        all.behind,
        (
          subst (AllByRecursion (Fits shape)) all.same_records
              (records_fit shape t.header memory t.records t.trace.fits t.agrees),
          ap flat_memory all.same_memory,
          t.are_logs ∙ ap (logs_so_far shape) all.same_records,
        ),
      )

  no_told : (memory : List (ℕ × Bytes)) (logs : List (List Record)) (told : Fault) →
      IsTraceFor shape (bytes ++ more) memory logs → IsFaultOfLogs shape (flat_memory memory) logs told →
      IsNoLater found told
  no_told memory logs told t fault =
      let at = trace_of memory logs t in
      no_later shape start records at.0 at.1.0 found told is
      (subst (λ (m : FlatMemory). IsFaultOfLogs shape m (logs_so_far shape (records ++ at.0)) told) at.1.1
      (subst (λ (ls : List (List Record)). IsFaultOfLogs shape (flat_memory memory) ls told) at.1.2 fault))

  yes_told : (memory : List (ℕ × Bytes)) (logs : List (List Record)) → IsTraceFor shape (bytes ++ more) memory logs →
      PartsRun shape (flat_memory memory) logs → ⊥
  yes_told memory logs t parts =
      let at = trace_of memory logs t in
      let here : PartsRun shape start (logs_so_far shape (records ++ at.0)) =
      subst (λ (m : FlatMemory). PartsRun shape m (logs_so_far shape (records ++ at.0))) at.1.1
      (subst (λ (ls : List (List Record)). PartsRun shape (flat_memory memory) ls) at.1.2 parts) in
      no_yes shape start records at.0 at.1.0 found is here.numbers here.ports here.banks

  told : (outcome : Outcome) → IsOutcomeOf shape (bytes ++ more) outcome →
      IsNoYesAfter (broken.Part found upon) outcome
  told (Yes events) o = yes_told o.memory o.logs o.trace o.ordered.parts
  told (No fault) o = no_told o.memory o.logs fault o.trace o.fault_of
  told (Refused (refusals.Format format)) o = tt
  told (Refused (refusals.Header field)) o =
      let all = traced exact law bytes more h records rest are are_more read whole split o.header o.memory
      o.records o.trace in
      agrees_or_differs shape h field agrees (subst (λ (g : Header). Differs shape g field) all.same_header o.differs)
  told (Refused (refusals.Workers n)) o = o
  told (Refused (refusals.Config fault)) o = o
  told (Refused refusals.Memory) o = o
  told (Refused refusals.Thread) o = o

pub final : ReadingIsExact → HeaderIsOfItsBytes → PartFaultsAreFinal
final exact law shape bytes memory records fault upon are begins is more outcome are_more o =
    told exact law shape bytes more begins.header records begins.rest fault upon are are_more begins.read
    begins.agrees (ap length begins.memory_is ∙ begins.whole) begins.records_are
    (subst (λ (m : List (ℕ × Bytes)). IsFaultOfPart shape (flat_memory m) records fault) (sym begins.memory_is) is)
    outcome o

-- ---- another hierarchy

pub one_field : (shape : Shape) (h : Header) (a b : HeaderField) → Differs shape h a → Differs shape h b → b ≡ a
one_field shape h fields.Ports fields.Ports x y = refl
one_field shape h fields.Ports fields.Banks x y = absurd (x y.0)
one_field shape h fields.Ports fields.Block x y = absurd (x y.0)
one_field shape h fields.Ports fields.Factor x y = absurd (x y.0)
one_field shape h fields.Banks fields.Ports x y = absurd (y x.0)
one_field shape h fields.Banks fields.Banks x y = refl
one_field shape h fields.Banks fields.Block x y = absurd (x.1 y.1)
one_field shape h fields.Banks fields.Factor x y = absurd (x.1 y.1)
one_field shape h fields.Block fields.Ports x y = absurd (y x.0)
one_field shape h fields.Block fields.Banks x y = absurd (y.1 x.1)
one_field shape h fields.Block fields.Block x y = refl
one_field shape h fields.Block fields.Factor x y = absurd (x.2 y.2)
one_field shape h fields.Factor fields.Ports x y = absurd (y x.0)
one_field shape h fields.Factor fields.Banks x y = absurd (y.1 x.1)
one_field shape h fields.Factor fields.Block x y = absurd (y.2 x.2)
one_field shape h fields.Factor fields.Factor x y = refl

module _ (exact : ReadingIsExact) (law : HeaderIsOfItsBytes) (shape : Shape) (bytes more : List ℕ) (h : Header)
    (field : HeaderField) (are : AreBytes bytes) (are_more : AreBytes more)
    (read : header_of bytes ≡ Some h) (differs : Differs shape h field) where
  same_header : (header : Header) (memory : List (ℕ × Bytes)) (all : List Record) →
      IsTrace (bytes ++ more) header memory all → header ≡ h
  same_header header memory all trace =
      let read_as = (exact (bytes ++ more) header memory all (both_bytes bytes more are are_more)).1 trace in
      let one : Some header ≡ Some h = sym read_as.1 ∙ header_stays law bytes more h read in cc

  none_for : (memory : List (ℕ × Bytes)) (logs : List (List Record)) → IsTraceFor shape (bytes ++ more) memory logs → ⊥
  none_for memory logs t = agrees_or_differs shape h field (subst (Agrees shape)
      (same_header t.header memory t.records t.trace) t.agrees) differs

  told_other : (outcome : Outcome) → IsOutcomeOf shape (bytes ++ more) outcome →
      IsNoYesAfter (broken.Header field) outcome
  told_other (Yes events) o = none_for o.memory o.logs o.trace
  told_other (No fault) o = none_for o.memory o.logs o.trace
  told_other (Refused (refusals.Format format)) o = tt
  told_other (Refused (refusals.Header told)) o =
      one_field shape h field told differs (subst (λ (g : Header). Differs shape g told)
      (same_header o.header o.memory o.records o.trace) o.differs)
  told_other (Refused (refusals.Workers n)) o = o
  told_other (Refused (refusals.Config fault)) o = o
  told_other (Refused refusals.Memory) o = o
  told_other (Refused refusals.Thread) o = o

pub other_final : ReadingIsExact → HeaderIsOfItsBytes → OtherHeadersAreFinal
other_final exact law shape bytes h field are read differs more outcome are_more o =
    told_other exact law shape bytes more h field are are_more read differs outcome o

-- ---- what a session was fed

pub few_more : (xs ys : List (ℕ × Bytes)) → length (xs ++ ys) ≤ length xs → xs ++ ys ≡ xs
few_more xs [] le = append-nil xs
few_more xs (y ∷ ys) le = absurd (omega (arith, length-append xs (y ∷ ys)))

-- the bytes begin a trace with the records that the session took
pub begins_fed : WhatIsReadFits → (s : Intake) (bytes : List ℕ) (records : List Record) (running : Standing)
    (judged : HasJudged s bytes records)
    → IsRunning s.shape s.asked.ordered bytes judged.taken records running →
    Begins s.shape bytes judged.taken records
begins_fed fits s bytes records running judged run =
    let memory_is : (reading_of bytes).memory ≡ judged.taken ++ s.reader.memory =
    ap (λ (q : Reading). q.memory) judged.read.same in
    let few = (fits bytes run.header judged.read.are_bytes run.read).few in
    let none : judged.taken ++ s.reader.memory ≡ judged.taken =
    few_more judged.taken s.reader.memory (omega (arith, ap length memory_is, few, run.whole)) in
    record {
      header = run.header;
      read = run.read;
      agrees = run.agrees;
      whole = run.whole;
      memory_is = memory_is ∙ none;
      rest = s.reader.records;
      records_are = ap (λ (q : Reading). q.records) judged.read.same;
    }

pub begins_fed-header : (fits : WhatIsReadFits) (s : Intake) (bytes : List ℕ) (records : List Record)
    (running : Standing) (judged : HasJudged s bytes records)
    (run : IsRunning s.shape s.asked.ordered bytes judged.taken records running) →
    (begins_fed fits s bytes records running judged run).header ≡ run.header
unfolding begins_fed
begins_fed-header fits s bytes records running judged run = refl

-- with fewer of the records
begins_fewer : (shape : Shape) (bytes : List ℕ) (memory : List (ℕ × Bytes)) (before after : List Record) →
    Begins shape bytes memory (before ++ after) → Begins shape bytes memory before
begins_fewer shape bytes memory before after begins = record {
  header = begins.header;
  read = begins.read;
  agrees = begins.agrees;
  whole = begins.whole;
  memory_is = begins.memory_is;
  rest = after ++ begins.rest;
  records_are = begins.records_are ∙ append_assoc before after begins.rest;
}

-- what a session found is final
pub final_if : (offset : ℕ) → PartFaultsAreFinal → (shape : Shape) (bytes : List ℕ) (memory : List (ℕ × Bytes))
    (records : List Record) (found : Option Broken) → AreBytes bytes
    → Begins shape bytes memory records → IfSome found (IsPartBroken offset shape (flat_memory memory) records) →
    IfSome found (IsFinal shape bytes)
final_if offset law shape bytes memory records None are begins is = tt
final_if offset law shape bytes memory records (Some (broken.Header field)) are begins is = absurd is
final_if offset law shape bytes memory records (Some (broken.Part fault None)) are begins is =
    law shape bytes memory records fault None are begins is
final_if offset law shape bytes memory records (Some (broken.Part fault (Some upon))) are begins is =
    let upto = is.before ++ is.item ∷ [] in
    let same : records ≡ upto ++ is.after = is.are ∙ sym (append_assoc is.before (is.item ∷ []) is.after) in
    law shape bytes memory upto fault (Some upon) are (begins_fewer shape bytes memory upto is.after
    (subst (Begins shape bytes memory) same begins)) is.broke.is

-- ... and the record that it names is the first
pub earliest_if : (shape : Shape) (bytes : List ℕ) (memory : List (ℕ × Bytes)) (records : List Record)
    (found : Option Broken) (begins : Begins shape bytes memory records)
    → IfSome found (IsPartBroken (first_offset begins.header memory) shape (flat_memory memory) records) →
    IfSome found NamesRecord → IfSome found (IsEarliest shape bytes)
earliest_if shape bytes memory records None begins is named = tt
earliest_if shape bytes memory records (Some (broken.Header field)) begins is named = absurd is
earliest_if shape bytes memory records (Some (broken.Part fault None)) begins is named = named
earliest_if shape bytes memory records (Some (broken.Part fault (Some upon))) begins is named =
    record { memory = memory; records = records; begins = begins; first = is }
