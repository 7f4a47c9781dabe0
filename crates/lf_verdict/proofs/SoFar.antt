-- What a session says once all that it was fed is judged.
use Rattle.std.proofs.Common.{◌≡◌, ℕ, List, [], ◌++◌, length, Some, sym, ap, ◌∙◌, subst}
use Rattle.std.proofs.lemmas.List.{append-nil}
use Rattle.lf_rules.specs.declared.event.Record.{Record}
use Rattle.lf_rules.specs.Address.{flat_memory}
use Rattle.lf_rules.specs.Fits.{Bytes}
use Rattle.lf_codec.specs.declared.header.Header.{Header}
use Rattle.lf_codec.specs.Laws.{WhatIsReadFits}
use Rattle.lf_codec.specs.Reading.{Reading, reading_of, header_now}
use Rattle.lf_verdict.specs.declared.session.breaking.PartFault.{PartFault}
use Rattle.lf_verdict.specs.declared.session.intake.Intake.{Intake}
use Rattle.lf_verdict.specs.declared.session.standing.Standing.{Standing}
use Rattle.lf_verdict.specs.Breaking.{IsNamedFault, NoneBroke}
use Rattle.lf_verdict.specs.Legal.{Agrees}
use Rattle.lf_verdict.specs.Named.{IsNamedSoFar, HasBegun, NoneBrokeSoFar}
use Rattle.lf_verdict.specs.Session.{HeaderAgrees}
use Rattle.lf_verdict.specs.inner.Fed.{HasJudged, IsRunning}
use Rattle.lf_verdict.specs.inner.Taking.{IsLacking}
use Rattle.lf_verdict.proofs.Finals.{begins_fed}
use Rattle.lf_verdict.proofs.Named.{same_header}

module _ (s : Intake) (bytes : List ℕ) (records : List Record) (judged : HasJudged s bytes records) where
  -- a trace whose memory is not whole has not begun
  not_begun : IsLacking s.reader judged.taken → HasBegun s.shape bytes → ⊥
  not_begun lacking begun =
      let here : header_now s.reader ≡ Some begun.header = sym (ap header_now judged.read.same) ∙ begun.read in
      let all : judged.taken ++ s.reader.memory ≡ (reading_of bytes).memory =
      sym (ap (λ (q : Reading). q.memory) judged.read.same) in
      let own : judged.taken ≡ (reading_of bytes).memory = sym (append-nil judged.taken)
      ∙ sym (ap (λ (left : List (ℕ × Bytes)). judged.taken ++ left) lacking.none) ∙ all in
      lacking.lacks begun.header here (ap (λ (m : List (ℕ × Bytes)). length m) own ∙ begun.whole)

  pub none_yet : IsLacking s.reader judged.taken → HeaderAgrees s.shape bytes → NoneBrokeSoFar s.shape bytes
  none_yet lacking agrees = record { header = agrees; parts = λ begun. absurd (not_begun lacking begun) }

  module _ (fits : WhatIsReadFits) (running : Standing)
      (run : IsRunning s.shape s.asked.ordered bytes judged.taken records running)
      (empty : s.reader.records ≡ []) where
    memory_is : judged.taken ≡ (reading_of bytes).memory
    memory_is = sym (begins_fed fits s bytes records running judged run).memory_is

    records_are : records ≡ (reading_of bytes).records
    records_are = sym (append-nil records) ∙ sym (ap (λ (rs : List Record). records ++ rs) empty)
        ∙ sym (ap (λ (q : Reading). q.records) judged.read.same)

    -- what is named of the records that were judged is named of all
    pub named_of_all : (fault : PartFault) → IsNamedFault s.shape (flat_memory judged.taken) records fault →
        IsNamedSoFar s.shape bytes fault
    named_of_all fault named = record {
      begun = record {
        header = run.header;
        read = run.read;
        agrees = run.agrees;
        whole = sym (ap (λ (m : List (ℕ × Bytes)). length m) memory_is) ∙ run.whole;
      };
      named = subst (λ (m : List (ℕ × Bytes)). IsNamedFault s.shape (flat_memory m) (reading_of bytes).records fault)
          memory_is
          (subst (λ (rs : List Record). IsNamedFault s.shape (flat_memory judged.taken) rs fault) records_are named);
    }

    -- ... and so it is where nothing is named
    pub none_of_all : NoneBroke s.shape (flat_memory judged.taken) records → NoneBrokeSoFar s.shape bytes
    none_of_all none = record {
      header = λ header read. subst (λ (h : Header). Agrees s.shape h)
          (same_header bytes run.header header run.read read) run.agrees;
      parts = λ _. subst (λ (m : List (ℕ × Bytes)). NoneBroke s.shape (flat_memory m) (reading_of bytes).records)
          memory_is
          (subst (λ (rs : List Record). NoneBroke s.shape (flat_memory judged.taken) rs) records_are none);
    }
