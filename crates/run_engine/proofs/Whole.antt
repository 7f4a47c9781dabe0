-- What is concluded of the bytes that a reader gave is so of all that it had.
use Rattle.std.proofs.Common.{◌≡◌, ◌≢◌, ℕ, List, ◌++◌, Option, None, Some, IfSome, sym, ap, ◌∙◌, subst, append-nil}
use Rattle.std.proofs.Common.{refl}
use Rattle.std.specs.Io.KnownBytes.{Consumes, IsAtEnd}
use Rattle.lf_rules.specs.declared.shape.Shape.{Shape}
use Rattle.lf_rules.specs.declared.event.Record.{Record}
use Rattle.lf_rules.specs.Fits.{Bytes}
use Rattle.lf_codec.specs.declared.fault.CodecFault.{CodecFault}
use Rattle.lf_codec.specs.declared.header.Header.{Header}
use Rattle.lf_codec.specs.Trace.{IsTrace}
use Rattle.lf_codec.specs.Reading.{fault_so_far}
use Rattle.lf_codec.specs.Laws.{AreBytes, ReadingIsExact, FaultsSoFarAreNotTruncated, FaultsStand}
use Rattle.lf_verdict.specs.declared.answer.Outcome.{Outcome}
use Rattle.lf_verdict.specs.declared.answer.Outcome.TheVariants.{Yes, No, Refused}
use Rattle.lf_verdict.specs.declared.answer.Refusal.{Refusal}
use Rattle.lf_verdict.specs.declared.answer.Refusal.TheVariants.{Workers, Config, Format, Header as OtherHeader}
use Rattle.lf_verdict.specs.declared.answer.Refusal.TheVariants.{Memory, Thread}
use Rattle.lf_verdict.specs.Outcome.{IsDecidedOutcome, IsOutcomeOf}
use Rattle.run_engine.specs.Gathered.{HasFault}
use Rattle.run_engine.specs.Run.{IsWhole}
use Rattle.run_engine.proofs.GatheringLemmas.{none_stands}

-- A trace has no fault.
trace_has_none : ReadingIsExact → (bytes : List ℕ) (h : Header) (memory : List (ℕ × Bytes))
    (records : List Record) → AreBytes bytes → IsTrace bytes h memory records → ¬ HasFault bytes
trace_has_none exact bytes h memory records are trace (fault, is, other) =
    let none = ((exact bytes h memory records are).1 trace).0 in
    let bad : None ≡ Some fault = sym none ∙ is in
    cc

module _ (exact : ReadingIsExact) (so_far : FaultsSoFarAreNotTruncated) (stand : FaultsStand) (shape : Shape)
    (all left bytes : List ℕ) (are : AreBytes bytes) (split : all ≡ bytes ++ left)
    (ended : ¬ HasFault bytes → IsAtEnd (Some left)) where
  same : ¬ HasFault bytes → all ≡ bytes
  same sound = split ∙ ap (λ l. bytes ++ l) (ended sound) ∙ append-nil bytes

  format : (fault : CodecFault) → IsOutcomeOf shape bytes (Refused (Format fault)) →
      IsOutcomeOf shape all (Refused (Format fault))
  format fault h = go (fault_so_far bytes) refl
    where
      go : (found : Option CodecFault) → fault_so_far bytes ≡ found → IsOutcomeOf shape all (Refused (Format fault))
      go (Some other) e =
          let was = (so_far bytes other).0 e in
          let whole = (stand bytes left other e).whole in
          subst (λ (b : List ℕ). IsOutcomeOf shape b (Refused (Format fault))) (sym split) (whole ∙ sym was.0 ∙ h)
      go None e = subst (λ (b : List ℕ). IsOutcomeOf shape b (Refused (Format fault)))
          (sym (same (none_stands so_far bytes e))) h

  refused : (r : Refusal) → IsDecidedOutcome (Refused r) → IsOutcomeOf shape bytes (Refused r) →
      IsOutcomeOf shape all (Refused r)
  refused (Workers n) decided h = absurd h
  refused (Config f) decided h = absurd h
  refused (Format f) decided h = format f h
  refused (OtherHeader field) decided h = subst (λ (b : List ℕ). IsOutcomeOf shape b (Refused (OtherHeader field)))
      (sym (same (trace_has_none exact bytes h.header h.memory h.records are h.trace))) h
  refused Memory decided h = absurd h
  refused Thread decided h = absurd h

  whole_of_all : (o : Outcome) → (IsDecidedOutcome o → IsOutcomeOf shape bytes o) → IsWhole shape bytes all o
  whole_of_all (Yes events) h =
      let trace = (h tt).trace in
      same (trace_has_none exact bytes trace.header (h tt).memory trace.records are trace.trace)
  whole_of_all (No fault) h =
      let trace = (h tt).trace in
      same (trace_has_none exact bytes trace.header (h tt).memory trace.records are trace.trace)
  whole_of_all (Refused r) h = λ decided. refused r decided (h decided)

-- Of a conclusion that memory ran out nothing is said.
pub nothing_whole : (shape : Shape) (bytes : List ℕ) (a : Option (List ℕ)) →
    IfSome a (λ all. IsWhole shape bytes all (Refused Memory))
nothing_whole shape bytes None = tt
nothing_whole shape bytes (Some all) = λ decided. absurd decided

pub whole : ReadingIsExact → FaultsSoFarAreNotTruncated → FaultsStand → (shape : Shape) (a b : Option (List ℕ))
    (bytes : List ℕ) (o : Outcome)
    → AreBytes bytes → Consumes a b bytes → (¬ HasFault bytes → IsAtEnd b)
    → (IsDecidedOutcome o → IsOutcomeOf shape bytes o) → IfSome a (λ all. IsWhole shape bytes all o)
whole exact so_far stand shape None b bytes o are given ended h = tt
whole exact so_far stand shape (Some all) None bytes o are given ended h = absurd given
whole exact so_far stand shape (Some all) (Some left) bytes o are given ended h =
    whole_of_all exact so_far stand shape all left bytes are given ended o h
