-- What a further miss to a block is judged by, where the one register that holds the block is known.
use Rattle.std.proofs.Common.{◌≡◌, ℕ, Bool, true, false, List, [], ◌∷◌, Option, None, Some, inl, inr}
use Rattle.std.proofs.Common.{sym, ap, ◌∙◌, subst}
use Rattle.std.specs.Prelude.{IfSome, is_some}
use Rattle.std.proofs.lemmas.Bool.{cases_Bool}
use Rattle.lf_rules.specs.declared.rule.Rule.{Rule}
use Rattle.lf_rules.specs.declared.rule.Rule.TheVariants.{NotInFlight, RegisterRange, WrongRegister, MergeFull}
use Rattle.lf_rules.specs.Clauses.{OfBank, bank_wants}
use Rattle.lf_rules.specs.Registers.{Held, holds, holds_in}
use Rattle.lf_rules.specs.Run.{first_failing}
use Rattle.lf_rules.specs.Sharing.{HoldsOnce}
use Rattle.lf_mshr.proofs.Once.{holds_from}

abbrev judged : (held there right left : Bool) → Option Rule
judged held there right left =
    first_failing OfBank (bank_wants NotInFlight held ∷ bank_wants RegisterRange there
    ∷ bank_wants WrongRegister right ∷ bank_wants MergeFull left ∷ [])

module _ {T : Type 0} (held : List (Held T)) (once : HoldsOnce held) (holder register block : ℕ)
    (has : holds_in held holder block ≡ true) (there left : Bool) where
  abbrev fault : Option Rule
  fault = judged (holds held block) there (holds_in held register block) left

  in_flight : fault ≡ judged true there (holds_in held register block) left
  in_flight = ap (λ b. judged b there (holds_in held register block) left) (holds_from held holder block has)

  -- there is no such register
  pub joins-none : there ≡ false → Some RegisterRange ≡ fault
  joins-none e = sym (in_flight ∙ ap (λ b. judged true b (holds_in held register block) left) e)

  -- it is another register
  pub joins-other : (register ≡ holder → ⊥) → there ≡ true → Some WrongRegister ≡ fault
  joins-other ne e = sym (in_flight ∙ ap (λ b. judged true b (holds_in held register block) left) e
      ∙ elim (cases_Bool (holds_in held register block)) [
        | inl too ↦ absurd (ne (once block register holder too has))
        | inr wrong ↦ ap (λ b. judged true true b left) wrong
      ])

  module _ (same : register ≡ holder) (e : there ≡ true) where
    joins : fault ≡ judged true true true left
    joins = in_flight ∙ ap (λ b. judged true b (holds_in held register block) left) e
        ∙ ap (λ b. judged true true b left) (subst (λ r. holds_in held r block ≡ true) (sym same) has)

    -- the register that holds the block has no place left, or has one
    pub joins-full : left ≡ false → Some MergeFull ≡ fault
    joins-full f = sym (joins ∙ ap (judged true true true) f)

    pub joins-left : left ≡ true → None ≡ fault
    joins-left f = sym (joins ∙ ap (judged true true true) f)

-- a block of which some register is known is held
pub known-held : {T : Type 0} (held : List (Held T)) (block : ℕ) (holder : Option ℕ) →
    IfSome holder (λ r. holds_in held r block ≡ true) → is_some holder ≡ true → holds held block ≡ true
known-held held block None some e = absurd (cc e)
known-held held block (Some r) some e = holds_from held r block some
