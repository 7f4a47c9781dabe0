-- What a bank says of a reply.
use Rattle.std.proofs.Common.{◌≡◌, ℕ, Bool, true, false, not, ◌==◌, List, [], ◌∷◌, length, get_or, Option, Some, None}
use Rattle.std.proofs.Common.{sym, ap, ◌∙◌, eq-eqb}
use Rattle.std.proofs.lemmas.Bool.{ne_eqb}
use Rattle.std.specs.Prelude.{bytes_eq}
use Rattle.std.specs.List.{list_any, position}
use Rattle.lf_rules.specs.declared.rule.Rule.{Rule}
use Rattle.lf_rules.specs.declared.rule.Rule.TheVariants.{NotReady, ReplySize, ReplyData}
use Rattle.lf_rules.specs.Clauses.{OfBank, bank_wants}
use Rattle.lf_rules.specs.Run.{first_failing}
use Rattle.lf_rules.specs.State.{Ready}
use Rattle.lf_rules.specs.Table.{first_ready, is_ready_for}
use Rattle.bank_state.proofs.Finds.{ready_there}
use Rattle.bank_events.proofs.Three.{second_fails, third_fails, three_hold}

-- the first rule that a reply breaks
abbrev pub reply_rule : List Ready → ℕ → ℕ → ℕ → List ℕ → Option Rule
reply_rule ready log tag size bytes =
    let value = first_ready ready log tag in
    first_failing OfBank (bank_wants NotReady (list_any (is_ready_for log tag) ready)
    ∷ bank_wants ReplySize (size == length value) ∷ bank_wants ReplyData (bytes_eq bytes value) ∷ [])

-- the reply stands at the place of the first that is ready for the port and tag
module _ (ready : List Ready) (log tag at : ℕ) (reply : Ready)
    (place : Some at ≡ position (is_ready_for log tag) ready)
    (here : reply ≡ get_or ready at reply) (size n : ℕ) (bytes value : List ℕ) (read : value ≡ reply.value)
    (long : n ≡ size) where
  there : list_any (is_ready_for log tag) ready ≡ true
  there = (ready_there ready log tag at reply place).1

  first : value ≡ first_ready ready log tag
  first = read ∙ ap (λ (r : Ready). r.value) here ∙ (ready_there ready log tag at reply place).2

  same_size : n ≡ length value → (size == length (first_ready ready log tag)) ≡ true
  same_size e = eq-eqb _ _ (sym long ∙ e ∙ ap length first)

  same_bytes : (b : Bool) → b ≡ not (bytes_eq bytes value) → bytes_eq bytes (first_ready ready log tag) ≡ not b
  same_bytes b e = ap (bytes_eq bytes) (sym first) ∙ turned (bytes_eq bytes value) b e
    where
      turned : (x b : Bool) → b ≡ not x → x ≡ not b
      turned true b e = ap not (sym e)
      turned false b e = ap not (sym e)

  pub size_breaks : (n ≡ length value → ⊥) → reply_rule ready log tag size bytes ≡ Some ReplySize
  size_breaks other = second_fails NotReady ReplySize ReplyData _ _ _ there
      (ne_eqb _ _ (λ e. other (long ∙ e ∙ ap length (sym first))))

  pub bytes_break : n ≡ length value → true ≡ not (bytes_eq bytes value) →
      reply_rule ready log tag size bytes ≡ Some ReplyData
  bytes_break e other = third_fails NotReady ReplySize ReplyData _ _ _ there (same_size e) (same_bytes true other)

  pub reply_holds : n ≡ length value → false ≡ not (bytes_eq bytes value) → reply_rule ready log tag size bytes ≡ None
  reply_holds e same = three_hold NotReady ReplySize ReplyData _ _ _ there (same_size e) (same_bytes false same)
