-- What is told of the records of a trace.
use Rattle.std.proofs.Common.{◌≡◌, ℕ, List, Option, None, Some, sym, ap, ◌∙◌, subst}
use Rattle.std.specs.List.{AllByRecursion}
use Rattle.lf_rules.specs.declared.shape.Shape.{Shape}
use Rattle.lf_rules.specs.declared.event.Record.{Record}
use Rattle.lf_rules.specs.Address.{FlatMemory, flat_memory}
use Rattle.lf_rules.specs.Fits.{Bytes, Fits}
use Rattle.lf_codec.specs.declared.header.Header.{Header}
use Rattle.lf_codec.proofs.TraceLaws.{bytes_are_of_one_trace}
use Rattle.lf_verdict.specs.declared.session.breaking.PartFault.{PartFault}
use Rattle.lf_verdict.specs.declared.session.breaking.PartFault.TheVariants as parts
use Rattle.lf_verdict.specs.declared.session.breaking.Broken.{Broken}
use Rattle.lf_verdict.specs.declared.session.breaking.Broken.TheVariants as broken
use Rattle.lf_verdict.specs.Breaking.{first_offset, IsFaultOfPart}
use Rattle.lf_verdict.specs.Final.{IsToldFirst}
use Rattle.lf_verdict.specs.declared.answer.Fault.{Fault}
use Rattle.lf_verdict.specs.declared.answer.Fault.TheVariants as faults
use Rattle.lf_verdict.specs.Outcome.{IsFaultOfLogs, IsNo}
use Rattle.lf_verdict.proofs.Traces.{records_fit}
use Rattle.explain_why.specs.Logs.{IsCountable}
use Rattle.explain_why.specs.declared.packing.Packing.{Packing}
use Rattle.explain_why.specs.Packing.{IsPacking}
use Rattle.lf_verdict.specs.declared.answer.Outcome.{Outcome}
use Rattle.lf_verdict.specs.declared.answer.Outcome.TheVariants.{Yes}
use Rattle.lf_verdict.specs.Outcome.{IsDecidedOutcome, IsYes, IsOutcomeOf}
use Rattle.explain_lines.specs.Marks.{besides, besides_of}
use Rattle.explain_why.specs.declared.not_legal.NotLegal.{NotLegal}
use Rattle.explain_why.specs.Cause.{HasBankOf, IsCause}
use Rattle.explain_why.specs.NotLegal.{HasBankOfFirst, as_fault, upon_of, IsFirstCause, IsSomeTraceFor, IsNotLegal}

-- ---- what is told

fault_bank : (shape : Shape) (memory : FlatMemory) (logs : List (List Record)) (fault : Fault) →
    IsFaultOfLogs shape memory logs fault
    → HasBankOf shape fault
fault_bank shape memory logs (faults.Missing bank k) is = tt
fault_bank shape memory logs (faults.Double bank k) is = tt
fault_bank shape memory logs (faults.Port port at rule) is = tt
fault_bank shape memory logs (faults.Bank bank number rule) is = is.is_bank
fault_bank shape memory logs (faults.Cycle ring) is = tt

-- A bank whose record breaks a rule is one of the shape's.
pub bank_is : (shape : Shape) (bytes : List ℕ) (fault : Fault) → IsNo shape bytes fault → HasBankOf shape fault
bank_is shape bytes fault is = fault_bank shape (flat_memory is.memory) is.logs fault is.fault_of

-- What broke first is of a bank of the shape's, where it is of one.
pub part_bank : (shape : Shape) (memory : FlatMemory) (records : List Record) (part : PartFault) →
    IsFaultOfPart shape memory records part
    → HasBankOf shape (as_fault part)
part_bank shape memory records (parts.Double bank k) is = tt
part_bank shape memory records (parts.Port port at rule) is = tt
part_bank shape memory records (parts.Bank bank number rule) is = is.is_bank

pub first_bank : (shape : Shape) (bytes : List ℕ) (earliest : Option Broken) → IsToldFirst shape bytes earliest →
    HasBankOfFirst shape earliest
first_bank shape bytes None is = tt
first_bank shape bytes (Some (broken.Header field)) is = tt
first_bank shape bytes (Some (broken.Part part None)) is = absurd is.earliest
first_bank shape bytes (Some (broken.Part part (Some upon))) is =
    part_bank shape (flat_memory is.earliest.memory) _ part is.earliest.first.broke.is

-- ---- a yes

-- A trace whose outcome is a yes has whole numbers.
pub countable : (shape : Shape) (bytes : List ℕ) (outcome : Outcome) (events : ℕ) → outcome ≡ Yes events
    → (IsDecidedOutcome outcome → IsOutcomeOf shape bytes outcome) → IsCountable shape bytes
countable shape bytes outcome events is judged =
    let yes : IsYes shape bytes events =
    subst (λ (o : Outcome). IsDecidedOutcome o → IsOutcomeOf shape bytes o) is judged tt in
    record { memory = yes.memory; logs = yes.logs; trace = yes.trace; whole = yes.ordered.parts.numbers }

-- ---- a no

-- A trace that is not legal is one.
pub trace_of_no : (shape : Shape) (bytes : List ℕ) (fault : Fault) → IsNo shape bytes fault → IsSomeTraceFor shape bytes
trace_of_no shape bytes fault is = record { memory = is.memory; logs = is.logs; trace = is.trace }

module _ (shape : Shape) (bytes : List ℕ) (of : IsSomeTraceFor shape bytes) (packing : Packing)
    (has : IsPacking bytes packing) where
  -- The packing is of that trace.
  same : (has.header ≡ of.trace.header) × (packing.memory.items ≡ of.memory)
      × (packing.records.records ≡ of.trace.records)
  same = bytes_are_of_one_trace bytes has.header of.trace.header packing.memory.items of.memory
      packing.records.records of.trace.records has.trace of.trace.trace

  -- Its records fit the shape.
  pub packing_fits : AllByRecursion (Fits shape) packing.records.records
  packing_fits =
      subst (λ (rs : List Record). AllByRecursion (Fits shape) rs) (sym same.2)
      (records_fit shape of.trace.header of.memory of.trace.records of.trace.trace.fits of.trace.agrees)

  -- What was found in it is why the trace is not legal.
  pub is_not_legal : (time : ℕ → ℕ → Option (List ℕ)) (most : ℕ) (fault : Fault) (earliest : Option Broken)
      (why : NotLegal) → IsToldFirst shape bytes earliest → why.records.records ≡ packing.records.records
      → besides why.marks ≡ besides_of time packing.start packing.records.records
      → IsCause shape packing.memory.items why.records.records most fault why.fault → why.upon ≡ upon_of earliest
      → IsFirstCause shape packing.memory.items why.records.records most fault earliest why.first
      → IsNotLegal shape bytes time most fault earliest why
  is_not_legal time most fault earliest why first_is records marks cause upon first = record {
    of = of;
    is_earliest = first_is;
    records = records ∙ same.2;
    marks = marks ∙ ap (λ (start : ℕ). besides_of time start packing.records.records) has.first
        ∙ ap (λ (h : Header). besides_of time (first_offset h packing.memory.items) packing.records.records) same.0
        ∙ ap (λ (m : List (ℕ × Bytes)). besides_of time (first_offset of.trace.header m) packing.records.records) same.1
        ∙ ap (besides_of time (first_offset of.trace.header of.memory)) same.2;
    cause = subst (λ (m : List (ℕ × Bytes)). IsCause shape m why.records.records most fault why.fault) same.1 cause;
    upon = upon;
    first = subst (λ (m : List (ℕ × Bytes)). IsFirstCause shape m why.records.records most fault earliest why.first)
        same.1 first;
  }
