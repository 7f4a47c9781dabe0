-- What is told of what broke first in bytes that begin a trace.
use Rattle.std.proofs.Common.{◌≡◌, ℕ, List, Option, Some, length, sym, ap, ◌∙◌, subst}
use Rattle.std.specs.List.{AllByRecursion}
use Rattle.lf_rules.specs.Address.{flat_memory}
use Rattle.lf_rules.specs.Fits.{Bytes, Fits}
use Rattle.lf_rules.specs.declared.shape.Shape.{Shape}
use Rattle.lf_codec.specs.declared.header.Header.{Header}
use Rattle.explain_lines.specs.Marks.{besides, besides_of}
use Rattle.lf_verdict.proofs.Traces.{records_fit}
use Rattle.lf_verdict.specs.Breaking.{first_offset}
use Rattle.lf_verdict.specs.Final.{IsFirstOf}
use Rattle.lf_verdict.specs.Legal.{Agrees}
use Rattle.lf_verdict.specs.declared.session.breaking.PartFault.{PartFault}
use Rattle.lf_verdict.specs.declared.session.breaking.Upon.{Upon}
use Rattle.explain_why.proofs.Records.{part_bank}
use Rattle.explain_why.specs.BrokenBefore.{IsBrokenBy}
use Rattle.explain_why.specs.Cause.{HasBankOf, IsCause}
use Rattle.explain_why.specs.NotLegal.{as_fault}
use Rattle.explain_why.specs.Packing.{HasMemory, IsPackingSoFar}
use Rattle.explain_why.specs.declared.broken_before.BrokenBefore.{BrokenBefore}
use Rattle.explain_why.specs.declared.packing.Packing.{Packing}

module _ (shape : Shape) (bytes : List ℕ) (fault : PartFault) (upon : Upon) (first : IsFirstOf shape bytes fault upon)
  where
    -- The memory is whole,
    pub has_memory : HasMemory bytes
    has_memory = record {
      header = first.begins.header;
      read = first.begins.read;
      whole = ap length first.begins.memory_is ∙ first.begins.whole;
    }

    -- and where the fault is of a bank it is one of the shape's.
    pub bank_of_first : HasBankOf shape (as_fault fault)
    bank_of_first = part_bank shape (flat_memory first.memory) _ fault first.first.broke.is

    module _ (packing : Packing) (has : IsPackingSoFar bytes packing) where
      header_is : has.header ≡ first.begins.header
      header_is = let both : Some has.header ≡ Some first.begins.header = sym has.read ∙ first.begins.read in cc

      memory_is : packing.memory.items ≡ first.memory
      memory_is = has.memory_is ∙ first.begins.memory_is

      -- The records fit the shape.
      pub packed_fits : AllByRecursion (Fits shape) packing.records.records
      packed_fits = records_fit shape has.header packing.memory.items packing.records.records has.fits
          (subst (Agrees shape) (sym header_is) first.begins.agrees)

      pub is_broken_by : (time : ℕ → ℕ → Option (List ℕ)) (most : ℕ) (why : BrokenBefore)
          → why.records.records ≡ packing.records.records
          → besides why.marks ≡ besides_of time packing.start packing.records.records
          → IsCause shape packing.memory.items why.records.records most (as_fault fault) why.cause → why.upon ≡ upon
          → IsBrokenBy shape bytes time most fault upon why
      is_broken_by time most why records marks cause upon_is = record {
        first = first;
        records = records ∙ has.records_are;
        marks = marks ∙ ap (λ (start : ℕ). besides_of time start packing.records.records) has.first
            ∙ ap (λ (h : Header). besides_of time (first_offset h packing.memory.items) packing.records.records)
            header_is ∙ ap (λ (m : List (ℕ × Bytes)). besides_of time (first_offset first.begins.header m)
            packing.records.records) memory_is
            ∙ ap (besides_of time (first_offset first.begins.header first.memory)) has.records_are;
        cause = subst (λ (m : List (ℕ × Bytes)). IsCause shape m why.records.records most (as_fault fault) why.cause)
            memory_is cause;
        upon_is = upon_is;
      }
