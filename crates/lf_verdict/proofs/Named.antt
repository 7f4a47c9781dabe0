-- Which of several faults is named, and that it is one.
use Rattle.std.proofs.Common.{◌≡◌, ℕ, ◌<◌, List, length, Option, Some, None, sym, ap}
use Rattle.std.proofs.Common.{◌∙◌, subst, arith, inl, inr}
use Rattle.std.specs.Prelude.{IfSome}
use Rattle.std.proofs.lemmas.Bool.{cases_lt}
use Rattle.lf_rules.specs.declared.shape.Shape.{Shape}
use Rattle.lf_rules.specs.declared.event.Record.{Record}
use Rattle.lf_rules.specs.declared.rule.Rule.{Rule}
use Rattle.lf_rules.specs.Address.{FlatMemory, flat_memory}
use Rattle.lf_rules.specs.Outcomes.{first_local}
use Rattle.lf_rules.specs.Run.{of_log, BreaksAt}
use Rattle.lf_rules.specs.Table.{OfPort, OfBank}
use Rattle.lf_codec.specs.declared.header.Header.{Header}
use Rattle.lf_codec.specs.Reading.{reading_of, header_of}
use Rattle.lf_verdict.specs.declared.answer.HeaderField.{HeaderField}
use Rattle.lf_verdict.specs.declared.session.breaking.PartFault.{PartFault}
use Rattle.lf_verdict.specs.declared.session.breaking.PartFault.TheVariants.{Double, Port, Bank}
use Rattle.lf_verdict.specs.declared.session.breaking.Broken.TheVariants as broken
use Rattle.lf_verdict.specs.Breaking.{BankBreaks, IsFaultOfPart, IsNamedBefore, IsNamedFault}
use Rattle.lf_verdict.specs.Named.{HasBegun, OneIsNamed}
use Rattle.lf_verdict.specs.Session.{IsOfAnotherHeader}
use Rattle.lf_verdict.specs.Outcome.{Differs}
use Rattle.lf_verdict.specs.inner.Noting.{IsPortWhole, IsOfPort, IsOfLowestBank}
use Rattle.lf_verdict.proofs.Breaks.{breaks_more, one_break, begins_with}
use Rattle.lf_verdict.proofs.Finals.{one_field, agrees_or_differs}

module _ (shape : Shape) (memory : FlatMemory) (records : List Record) where
  -- ---- what is named

  pub named_port : (port : ℕ) (fault : PartFault) → IsFaultOfPart shape memory records fault → IsOfPort port fault
      → ((p : ℕ) → p < port → IsPortWhole shape memory records p) → IsNamedFault shape memory records fault
  named_port port (Port q at rule) is own below = record { is = is; first = go }
    where
      go : (other : PartFault) → IsNamedBefore other (Port q at rule) → IsFaultOfPart shape memory records other → ⊥
      go (Port p at' rule') before it = below p (omega (arith, before, own)) at' rule' it
      go (Bank bank number rule') before it = before
      go (Double bank k) before it = before
  named_port port (Bank bank number rule) is own below = absurd own
  named_port port (Double bank k) is own below = absurd own

  named_bank : (fault : PartFault) → IsFaultOfPart shape memory records fault →
      IsOfLowestBank shape memory records fault
      → ((p : ℕ) → p < shape.ports → IsPortWhole shape memory records p) → IsNamedFault shape memory records fault
  named_bank (Port port at rule) is lowest ports = absurd lowest.of_bank
  named_bank (Bank b number rule) is lowest ports = record { is = is; first = go }
    where
      go : (other : PartFault) → IsNamedBefore other (Bank b number rule) → IsFaultOfPart shape memory records other → ⊥
      go (Port p at' rule') before it = ports p it.0 at' rule' it
      go (Bank q number' rule') before it =
          (lowest.below q (omega (arith, before, lowest.of_bank))).rules number' rule' it
      go (Double q k) before it = (lowest.below q (omega (arith, before, lowest.of_bank))).numbers k it
  named_bank (Double b k) is lowest ports = record { is = is; first = go }
    where
      go : (other : PartFault) → IsNamedBefore other (Double b k) → IsFaultOfPart shape memory records other → ⊥
      go (Port p at' rule') before it = ports p it.0 at' rule' it
      go (Bank q number' rule') before it = elim (cases_lt q b) [
        | inl lt ↦ (lowest.below q (omega (arith, lt, lowest.of_bank.0))).rules number' rule' it
        | inr le ↦
            let same : q ≡ lowest.bank = omega (arith, before, le, lowest.of_bank.0) in
            lowest.of_bank.1 number' rule'
            (subst (λ (n : ℕ). IsFaultOfPart shape memory records (Bank n number' rule')) same it)
      ]
      go (Double q k') (inl lt) it = (lowest.below q (omega (arith, lt, lowest.of_bank.0))).numbers k' it
      go (Double q k') (inr equal) it = lowest.of_bank.2 k' equal.1
          (subst (λ (n : ℕ). IsFaultOfPart shape memory records (Double n k')) (equal.0 ∙ lowest.of_bank.0) it)

  pub named_bank_if : (found : Option PartFault) → IfSome found (IsFaultOfPart shape memory records)
      → IfSome found (IsOfLowestBank shape memory records)
      → ((p : ℕ) → p < shape.ports → IsPortWhole shape memory records p) →
      IfSome found (IsNamedFault shape memory records)
  named_bank_if (Some fault) is lowest ports = named_bank fault is lowest ports
  named_bank_if None is lowest ports = tt

  -- ---- at most one

  same_number : (a b : ℕ) → (a < b → ⊥) → (b < a → ⊥) → a ≡ b
  same_number a b below above = elim (cases_lt a b) [
    | inl lt ↦ absurd (below lt)
    | inr le ↦ elim (cases_lt b a) [
      | inl lt ↦ absurd (above lt)
      | inr le' ↦ omega (arith, le, le')
    ]
  ]

  one_bank_break : (bank n n' : ℕ) (rule rule' : Rule) → BankBreaks shape memory records bank n rule →
      BankBreaks shape memory records bank n' rule' → (n' ≡ n) × (rule' ≡ rule)
  one_bank_break bank n n' rule rule' a b = elim (cases_lt (length a.gave) (length b.gave)) [
    | inl lt ↦
        let longer = begins_with a.gave b.gave (λ k below. b.first k (omega (arith, below, lt)) ∙ sym (a.first k below))
        in
        one_break OfBank shape (first_local memory) b.gave n n' rule rule'
        (subst (λ (rs : List Record). BreaksAt OfBank shape (first_local memory) rs n rule) (sym longer.1)
        (breaks_more OfBank shape (first_local memory) a.gave longer.0 n rule a.breaks)) b.breaks
    | inr le ↦
        let longer = begins_with b.gave a.gave (λ k below. a.first k (omega (arith, below, le)) ∙ sym (b.first k below))
        in
        one_break OfBank shape (first_local memory) a.gave n n' rule rule' a.breaks
        (subst (λ (rs : List Record). BreaksAt OfBank shape (first_local memory) rs n' rule') (sym longer.1)
        (breaks_more OfBank shape (first_local memory) b.gave longer.0 n' rule' b.breaks))
  ]

  pub one_named : (fault other : PartFault) → IsNamedFault shape memory records fault →
      IsNamedFault shape memory records other → fault ≡ other
  one_named (Port p at rule) (Port q at' rule') a b =
      let same : p ≡ q = same_number p q (λ lt. b.first (Port p at rule) lt a.is)
      (λ lt. a.first (Port q at' rule') lt b.is) in
      let one = one_break OfPort shape (first_local memory) (of_log p records) at at' rule rule' a.is.1
      (subst (λ (n : ℕ). BreaksAt OfPort shape (first_local memory) (of_log n records) at' rule') (sym same) b.is.1) in
      let place : at' ≡ at = one.0 in
      let broke : rule' ≡ rule = one.1 in cc
  one_named (Port p at rule) (Bank q number rule') a b = absurd (b.first (Port p at rule) tt a.is)
  one_named (Port p at rule) (Double q k) a b = absurd (b.first (Port p at rule) tt a.is)
  one_named (Bank p number rule) (Port q at rule') a b = absurd (a.first (Port q at rule') tt b.is)
  one_named (Bank p number rule) (Bank q number' rule') a b =
      let same : p ≡ q = same_number p q (λ lt. b.first (Bank p number rule) lt a.is)
      (λ lt. a.first (Bank q number' rule') lt b.is) in
      let one = one_bank_break p number number' rule rule' a.is
      (subst (λ (n : ℕ). BankBreaks shape memory records n number' rule') (sym same) b.is) in
      let place : number' ≡ number = one.0 in
      let broke : rule' ≡ rule = one.1 in cc
  one_named (Bank p number rule) (Double q k) a b = elim (cases_lt q p) [
    | inl lt ↦ absurd (a.first (Double q k) lt b.is)
    | inr le ↦ absurd (b.first (Bank p number rule) le a.is)
  ]
  one_named (Double p k) (Port q at rule) a b = absurd (a.first (Port q at rule) tt b.is)
  one_named (Double p k) (Bank q number rule) a b = elim (cases_lt p q) [
    | inl lt ↦ absurd (b.first (Double p k) lt a.is)
    | inr le ↦ absurd (a.first (Bank q number rule) le b.is)
  ]
  one_named (Double p k) (Double q k') a b =
      let same : p ≡ q = same_number p q (λ lt. b.first (Double p k) (inl lt) a.is)
      (λ lt. a.first (Double q k') (inl lt) b.is) in
      let least : k ≡ k' = same_number k k' (λ lt. b.first (Double p k) (inr (same, lt)) a.is)
      (λ lt. a.first (Double q k') (inr (sym same, lt)) b.is) in cc

-- the header that was read is one
pub same_header : (bytes : List ℕ) (h h' : Header) → header_of bytes ≡ Some h → header_of bytes ≡ Some h' → h ≡ h'
same_header bytes h h' e e' = let one : Some h ≡ Some h' = sym e ∙ e' in cc

begun_or_other : (shape : Shape) (bytes : List ℕ) (field : HeaderField) → HasBegun shape bytes →
    IsOfAnotherHeader shape bytes field → ⊥
begun_or_other shape bytes field begun other = agrees_or_differs shape begun.header field begun.agrees
    (subst (λ (h : Header). Differs shape h field)
    (same_header bytes other.header begun.header other.read begun.read) other.differs)

pub one_is_named : OneIsNamed
one_is_named shape bytes (broken.Header field) (broken.Header field') a b =
    let same : field' ≡ field = one_field shape b.header field field' (subst (λ (h : Header). Differs shape h field)
    (same_header bytes a.header b.header a.read b.read) a.differs) b.differs in
    ap (λ (f : HeaderField). broken.Header f) (sym same)
one_is_named shape bytes (broken.Header field) (broken.Part fault None) a b =
    absurd (begun_or_other shape bytes field b.begun a)
one_is_named shape bytes (broken.Header field) (broken.Part fault (Some upon)) a b = absurd b
one_is_named shape bytes (broken.Part fault None) (broken.Header field) a b =
    absurd (begun_or_other shape bytes field a.begun b)
one_is_named shape bytes (broken.Part fault None) (broken.Part fault' None) a b =
    ap (λ (f : PartFault). broken.Part f None) (one_named shape (flat_memory (reading_of bytes).memory)
    (reading_of bytes).records fault fault' a.named b.named)
one_is_named shape bytes (broken.Part fault None) (broken.Part fault' (Some upon)) a b = absurd b
one_is_named shape bytes (broken.Part fault (Some upon)) other a b = absurd a
