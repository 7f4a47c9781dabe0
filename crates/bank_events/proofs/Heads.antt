-- What a bank says of a miss of level one.
use Rattle.std.proofs.Common.{◌≡◌, ℕ, zero, suc, ◌/◌, ◌<◌, Bool, true, false, not, ◌&&◌, nat_lt, List, [], ◌∷◌}
use Rattle.std.proofs.Common.{cond, length, Option, Some, None, refl, sym, ap, ◌∙◌, eqb-true, arith}
use Rattle.std.proofs.lemmas.Bool.{lt-ltb}
use mathlib.Core.Path.{ap₂}
use Rattle.lf_rules.specs.declared.rule.Rule.{Rule}
use Rattle.lf_rules.specs.declared.rule.Rule.TheVariants.{NotHead, NotPresent, Present, NeedlessStall}
use Rattle.lf_rules.specs.declared.shape.Shape.{Shape}
use Rattle.lf_rules.specs.Clauses.{Clause, OfBank, bank_wants}
use Rattle.lf_rules.specs.Registers.{Held, has_room, primary_clauses, merge_clauses}
use Rattle.lf_rules.specs.Run.{first_failing}
use Rattle.lf_rules.specs.State.{Request, Missed}
use Rattle.lf_rules.specs.Table.{is_head, oldest, destination, destinations, position}
use Rattle.bank_state.specs.Queues.{queue_at}
use Rattle.bank_cells.specs.declared.known.First.{First}
use Rattle.bank_cells.specs.declared.known.First.TheVariants as level1
use Rattle.bank_events.specs.Known.{is_present}

one_holds : (rule : Rule) (a : Bool) (rest : List Clause) → a ≡ true →
    first_failing OfBank (bank_wants rule a ∷ rest) ≡ first_failing OfBank rest
one_holds rule true rest e = refl
one_holds rule false rest e = absurd (cc e)

head_tag : (queue : List Request) (tag : ℕ) → is_head queue tag ≡ true → (oldest queue).tag ≡ tag
head_tag [] tag e = absurd (cc e)
head_tag (request ∷ queue) tag e = eqb-true request.tag tag e

queue_there : (queues : List (List Request)) (port tag : ℕ) → is_head (queue_at queues port) tag ≡ true →
    port < length queues
queue_there [] zero tag e = absurd (cc e)
queue_there [] (suc port) tag e = absurd (cc e)
queue_there (queue ∷ queues) zero tag e = omega arith
queue_there (queue ∷ queues) (suc port) tag e = let rest = queue_there queues port tag e in omega (arith, rest)

module _ (shape : Shape) (queues : List (List Request)) (port tag : ℕ) (request : Request)
    (long : length queues ≡ shape.ports)
    (head : is_head (queue_at queues port) tag ≡ true) (same : request ≡ oldest (queue_at queues port)) where
  pub is_next : (nat_lt port shape.ports && is_head (queue_at queues port) tag) ≡ true
  is_next =
      let lt : port < shape.ports = omega (arith, long, queue_there queues port tag head) in
      ap₂ (λ a b. a && b) (lt-ltb port shape.ports lt) head

  named : (d : ℕ) → d ≡ destination shape port request.tag → destination shape port tag ≡ d
  named d is = sym (is ∙ ap (λ (r : Request). destination shape port r.tag) same
      ∙ ap (destination shape port) (head_tag (queue_at queues port) tag head))

  here : (block : ℕ) → block ≡ request.block → (oldest (queue_at queues port)).block ≡ block
  here block is = sym (is ∙ ap (λ (r : Request). r.block) same)

  pub primary_judged : (first : ℕ → First) (waiting : List (Held Missed)) (register block d : ℕ) (told : Option Rule) →
      is_present (first block) ≡ false → block ≡ request.block
      → d ≡ destination shape port request.tag
      → told ≡ first_failing OfBank (primary_clauses shape.level1.organisation (destinations shape) waiting block d
      register)
      → first_failing OfBank (
      bank_wants NotHead (nat_lt port shape.ports && is_head (queue_at queues port) tag)
      ∷ bank_wants Present (not (is_present (first (oldest (queue_at queues port)).block)))
      ∷ primary_clauses shape.level1.organisation (destinations shape) waiting (oldest (queue_at queues port)).block
      (destination shape port tag) register
      ) ≡ told
  primary_judged first waiting register block d told absent at dest is =
      let last : List Clause =
      primary_clauses shape.level1.organisation (destinations shape) waiting (oldest (queue_at queues port)).block
      (destination shape port tag) register in
      one_holds NotHead _ (bank_wants Present (not (is_present (first (oldest (queue_at queues port)).block))) ∷ last)
      is_next
      ∙ one_holds Present _ last (ap (λ b. not (is_present (first b))) (here block at) ∙ ap not absent)
      ∙ (λ i. first_failing OfBank (primary_clauses shape.level1.organisation (destinations shape) waiting
      (here block at i) (named d dest i) register)) ∙ sym is

  pub merge_judged : (waiting : List (Held Missed)) (register block d word : ℕ) (told : Option Rule) →
      block ≡ request.block → d ≡ destination shape port request.tag
      → word ≡ request.offset / 8
      → told ≡ first_failing OfBank (merge_clauses shape.level1.organisation (destinations shape) position waiting
      block d word register)
      → first_failing OfBank (
      bank_wants NotHead (nat_lt port shape.ports && is_head (queue_at queues port) tag)
      ∷ merge_clauses shape.level1.organisation (destinations shape) position waiting
      (oldest (queue_at queues port)).block (destination shape port tag)
      ((oldest (queue_at queues port)).offset / 8) register
      ) ≡ told
  merge_judged waiting register block d word told at dest is same_rule =
      let word_is : (oldest (queue_at queues port)).offset / 8 ≡ word =
      sym (is ∙ ap (λ (r : Request). r.offset / 8) same) in
      let last : List Clause =
      merge_clauses shape.level1.organisation (destinations shape) position waiting
      (oldest (queue_at queues port)).block (destination shape port tag)
      ((oldest (queue_at queues port)).offset / 8) register in
      one_holds NotHead _ last is_next
      ∙ (λ i. first_failing OfBank (merge_clauses shape.level1.organisation (destinations shape) position waiting
      (here block at i) (named d dest i) (word_is i) register))
      ∙ sym same_rule

  pub hit_judged : (first : ℕ → First) (block : ℕ) → block ≡ request.block → level1.Present ≡ first block →
      first_failing OfBank (
      bank_wants NotHead (nat_lt port shape.ports && is_head (queue_at queues port) tag)
      ∷ bank_wants NotPresent (is_present (first (oldest (queue_at queues port)).block)) ∷ []
      ) ≡ None
  hit_judged first block at present =
      let last : List Clause = bank_wants NotPresent (is_present (first (oldest (queue_at queues port)).block)) ∷ [] in
      one_holds NotHead _ last is_next
      ∙ one_holds NotPresent _ [] (ap (λ b. is_present (first b)) (here block at) ∙ ap is_present (sym present))

  last_told : (rule : Rule) (a b : Bool) → b ≡ a →
      first_failing OfBank (bank_wants rule (not a) ∷ []) ≡ cond b (Some rule) None
  last_told rule true true e = refl
  last_told rule false false e = refl
  last_told rule true false e = absurd (cc e)
  last_told rule false true e = absurd (cc e)

  not_present : (f : First) → (f ≡ level1.Present → ⊥) → not (is_present f) ≡ true
  not_present level1.Absent other = refl
  not_present (level1.InFlight register how) other = refl
  not_present level1.Present other = absurd (other refl)

  pub stall_judged : (first : ℕ → First) (waiting : List (Held Missed)) (block d word : ℕ) (known : First)
      (room : Bool) → known ≡ first block → (known ≡ level1.Present → ⊥) → block ≡ request.block
      → d ≡ destination shape port request.tag → word ≡ request.offset / 8
      → room ≡ has_room shape.level1.organisation (destinations shape) position waiting block d word
      → first_failing OfBank (
      bank_wants NotHead (nat_lt port shape.ports && is_head (queue_at queues port) tag)
      ∷ bank_wants Present (not (is_present (first (oldest (queue_at queues port)).block)))
      ∷ bank_wants NeedlessStall (not (has_room shape.level1.organisation (destinations shape) position waiting
      (oldest (queue_at queues port)).block (destination shape port tag) ((oldest (queue_at queues port)).offset / 8)))
      ∷ []
      ) ≡ cond room (Some NeedlessStall) None
  stall_judged first waiting block d word known room is other at dest is_word e =
      let word_is : (oldest (queue_at queues port)).offset / 8 ≡ word =
      sym (is_word ∙ ap (λ (r : Request). r.offset / 8) same) in
      let room_is : room ≡ has_room shape.level1.organisation (destinations shape) position waiting
      (oldest (queue_at queues port)).block (destination shape port tag) ((oldest (queue_at queues port)).offset / 8) =
      e ∙ sym (λ i. has_room shape.level1.organisation (destinations shape) position waiting (here block at i)
      (named d dest i) (word_is i)) in
      let last : List Clause = bank_wants NeedlessStall (not (has_room shape.level1.organisation (destinations shape)
      position waiting (oldest (queue_at queues port)).block (destination shape port tag)
      ((oldest (queue_at queues port)).offset / 8))) ∷ [] in
      one_holds NotHead _ (bank_wants Present (not (is_present (first (oldest (queue_at queues port)).block))) ∷ last)
      is_next
      ∙ one_holds Present _ last (ap (λ b. not (is_present (first b))) (here block at)
      ∙ ap (λ f. not (is_present f)) (sym is) ∙ not_present known other)
      ∙ last_told NeedlessStall _ room room_is
