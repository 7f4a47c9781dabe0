-- What waits in registers after one more target, and after the targets of a block leave.
use Rattle.std.proofs.Common.{◌≡◌, ℕ, Bool, true, false, cond, not, ◌&&◌, ◌||◌, ◌==◌, List, [], ◌∷◌, ◌++◌}
use Rattle.std.proofs.Common.{refl, sym, ap, ap₂, ◌∙◌, eqb-true, eq-eqb}
use Rattle.std.specs.Prelude.{bit_or}
use Rattle.std.specs.List.{fold}
use Rattle.std.proofs.lemmas.List.Sums.{fold-append}
use Rattle.lf_rules.specs.Registers.{Held, holds, holds_in, targets_of, released}
use Rattle.lf_rules.specs.State.{Missed, Asked}
use Rattle.lf_rules.specs.Table.{store_mask, store_bytes, is_asked, asked_register}
use Rattle.lf_rules.proofs.CopyBlock.{none_waits}
use Rattle.lf_rules.proofs.CopyStep.{waits_some}
use Rattle.bank_events.proofs.Holding.{no_way}

or_right : (p q r : Bool) → (q ≡ true → r ≡ true) → (p || q) ≡ true → (p || r) ≡ true
or_right true q r more e = refl
or_right false q r more e = more e

and_false : (p q : Bool) → q ≡ false → (p && q) ≡ false
and_false true q e = e
and_false false q e = refl

module _ {T : Type 0} where
  -- ---- a register that holds a block

  pub holds_in-own : (held : List (Held T)) (h : Held T) → holds_in (held ++ h ∷ []) h.register h.block ≡ true
  holds_in-own [] h = ap₂ (λ p q. (p && q) || false) (eq-eqb h.register h.register refl)
      (eq-eqb h.block h.block refl)
  holds_in-own (g ∷ held) h =
      or_right (g.register == h.register && g.block == h.block) true _ (λ _. holds_in-own held h)
      (or_true (g.register == h.register && g.block == h.block))
    where
      or_true : (p : Bool) → (p || true) ≡ true
      or_true true = refl
      or_true false = refl

  pub holds_in-more : (held : List (Held T)) (h : Held T) (register block : ℕ) → holds_in held register block ≡ true
      → holds_in (held ++ h ∷ []) register block ≡ true
  holds_in-more [] h register block e = no_way e
  holds_in-more (g ∷ held) h register block e =
      or_right (g.register == register && g.block == block) _ _ (holds_in-more held h register block) e

  -- another block stays in its registers
  pub holds_in-released : (held : List (Held T)) (x register block : ℕ) → (x == block) ≡ false
      → holds_in (released held x) register block ≡ holds_in held register block
  holds_in-released [] x register block apart = refl
  holds_in-released (g ∷ held) x register block apart =
      go (g.block == x) refl (holds_in-released held x register block apart)
    where
      go : (b : Bool) → (g.block == x) ≡ b → holds_in (released held x) register block ≡ holds_in held register block
          → holds_in (cond (not b) (g ∷ released held x) (released held x)) register block
          ≡ ((g.register == register && g.block == block) || holds_in held register block)
      go true e rest = rest ∙ ap (λ p. p || holds_in held register block)
          (sym (and_false (g.register == register) (g.block == block)
          (ap (λ n. n == block) (eqb-true g.block x e) ∙ apart)))
      go false e rest = ap (λ p. (g.register == register && g.block == block) || p) rest

  -- ---- targets

  pub targets_push : (held : List (Held T)) (h : Held T) (y : ℕ) →
      targets_of (held ++ h ∷ []) y ≡ cond (h.block == y) (targets_of held y ++ h ∷ []) (targets_of held y)
  targets_push [] h y = refl
  targets_push (g ∷ held) h y = push (g.block == y) (h.block == y) (targets_push held h y)
    where
      push : (p q : Bool) → targets_of (held ++ h ∷ []) y ≡ cond q (targets_of held y ++ h ∷ []) (targets_of held y)
          → cond p (g ∷ targets_of (held ++ h ∷ []) y) (targets_of (held ++ h ∷ []) y)
          ≡ cond q (cond p (g ∷ targets_of held y) (targets_of held y) ++ h ∷ [])
          (cond p (g ∷ targets_of held y) (targets_of held y))
      push true true e = ap (λ xs. g ∷ xs) e
      push true false e = ap (λ xs. g ∷ xs) e
      push false true e = e
      push false false e = e

  -- another block keeps its targets
  pub targets-released : (held : List (Held T)) (x y : ℕ) → (x == y) ≡ false →
      targets_of (released held x) y ≡ targets_of held y
  targets-released [] x y apart = refl
  targets-released (g ∷ held) x y apart = go (g.block == x) refl (targets-released held x y apart)
    where
      go : (b : Bool) → (g.block == x) ≡ b → targets_of (released held x) y ≡ targets_of held y
          → targets_of (cond (not b) (g ∷ released held x) (released held x)) y
          ≡ cond (g.block == y) (g ∷ targets_of held y) (targets_of held y)
      go true e rest = rest ∙ ap (λ p. cond p (g ∷ targets_of held y) (targets_of held y))
          (sym (ap (λ n. n == y) (eqb-true g.block x e) ∙ apart))
      go false e rest = ap (λ (xs : List (Held T)). cond (g.block == y) (g ∷ xs) xs) rest

-- ---- the bytes of waiting stores

pub stores-own : (waiting : List (Held Missed)) (h : Held Missed)
    → store_bytes (waiting ++ h ∷ []) h.block ≡ bit_or (store_bytes waiting h.block) (store_mask h.target.request)
stores-own waiting h =
    ap joined (targets_push waiting h h.block
    ∙ ap (λ b. cond b (targets_of waiting h.block ++ h ∷ []) (targets_of waiting h.block))
    (eq-eqb h.block h.block refl))
    ∙ fold-append (λ (mask : ℕ) (g : Held Missed). bit_or mask (store_mask g.target.request)) 0
    (targets_of waiting h.block) (h ∷ [])
  where
    joined : List (Held Missed) → ℕ
    joined held = fold (λ mask g. bit_or mask (store_mask g.target.request)) 0 held

pub stores-other : (waiting : List (Held Missed)) (h : Held Missed) (y : ℕ) → (h.block == y) ≡ false
    → store_bytes (waiting ++ h ∷ []) y ≡ store_bytes waiting y
stores-other waiting h y apart =
    ap (λ (held : List (Held Missed)). fold (λ mask g. bit_or mask (store_mask g.target.request)) 0 held)
    (targets_push waiting h y ∙ ap (λ b. cond b (targets_of waiting y ++ h ∷ []) (targets_of waiting y)) apart)

pub stores-released : (waiting : List (Held Missed)) (x y : ℕ) → (x == y) ≡ false
    → store_bytes (released waiting x) y ≡ store_bytes waiting y
stores-released waiting x y apart =
    ap (λ (held : List (Held Missed)). fold (λ mask g. bit_or mask (store_mask g.target.request)) 0 held)
    (targets-released waiting x y apart)

-- a block that no register holds has none
pub stores-none : (waiting : List (Held Missed)) (x : ℕ) → holds waiting x ≡ false → store_bytes waiting x ≡ 0
stores-none waiting x none =
    ap (λ (held : List (Held Missed)). fold (λ mask g. bit_or mask (store_mask g.target.request)) 0 held)
    (none_waits (targets_of waiting x) (waits_some waiting x ∙ none))

-- ---- the register of a block that is asked for

pub asked_register-push : (asked : List Asked) (x register y : ℕ) → asked_register (asked ++ (x, register) ∷ []) y
    ≡ cond (is_asked asked y) (asked_register asked y) (cond (x == y) register 0)
asked_register-push [] x register y = refl
asked_register-push (a ∷ asked) x register y = go (a.0 == y) (asked_register-push asked x register y)
  where
    go : (b : Bool) → asked_register (asked ++ (x, register) ∷ []) y
        ≡ cond (is_asked asked y) (asked_register asked y) (cond (x == y) register 0)
        → cond b a.1 (asked_register (asked ++ (x, register) ∷ []) y)
        ≡ cond (b || is_asked asked y) (cond b a.1 (asked_register asked y)) (cond (x == y) register 0)
    go true e = refl
    go false e = e
