-- A list of busy tags as a function of port and tag.
use Rattle.std.proofs.Common.{◌≡◌, ℕ, ◌<◌, Bool, true, false, cond, not, ◌&&◌, ◌||◌, ◌==◌, List, [], ◌∷◌, ◌++◌}
use Rattle.std.proofs.Common.{Option, Some, None, is_none, refl, sym, ap, ◌∙◌, eqb-true, arith}
use mathlib.Core.Path.{ap₂, fun_ext}
use Rattle.std.specs.List.{find, filter}
use Rattle.std.proofs.lemmas.Bool.{cond-false}
use Rattle.model_plain.specs.declared.busy.BusyTag.{BusyTag}
use Rattle.lf_rules.specs.State.{update}
use Rattle.model_plain.specs.Plain.{busy_of}
use Rattle.lf_rules.specs.Table.{none_busy}
use Rattle.lf_rules.proofs.Masks.{all_range, not_all}

abbrev pub bank_in : Option BusyTag → Option ℕ
bank_in None = None
bank_in (Some b) = Some b.bank

pub busy_found : (busy : List BusyTag) (port tag : ℕ) → busy_of busy port tag
    ≡ bank_in (find (λ b. b.port == port && b.tag == tag) busy)
busy_found [] port tag = refl
busy_found (b ∷ busy) port tag =
    elim (b.port == port && b.tag == tag) as (λ t. cond t (Some b.bank) (busy_of busy port tag)
    ≡ bank_in (cond t (Some b) (find (λ b. b.port == port && b.tag == tag) busy))) [
      | true ↦ refl
      | false ↦ busy_found busy port tag
    ]

-- ---- one more

abbrev or_else : Option ℕ → Option ℕ → Option ℕ
or_else None other = other
or_else (Some b) other = Some b

or_none : (o : Option ℕ) → or_else o None ≡ o
or_none None = refl
or_none (Some b) = refl

append_at : (xs : List BusyTag) (x : BusyTag) (p t : ℕ) → busy_of (xs ++ x ∷ []) p t
    ≡ or_else (busy_of xs p t) (cond (x.port == p && x.tag == t) (Some x.bank) None)
append_at [] x p t = refl
append_at (b ∷ xs) x p t =
    elim (b.port == p && b.tag == t) as (λ k. cond k (Some b.bank) (busy_of (xs ++ x ∷ []) p t)
    ≡ or_else (cond k (Some b.bank) (busy_of xs p t))
    (cond (x.port == p && x.tag == t) (Some x.bank) None)) [
      | true ↦ refl
      | false ↦ append_at xs x p t
    ]

pub busy_pushed : (xs : List BusyTag) (x : BusyTag) → busy_of xs x.port x.tag ≡ None →
    busy_of (xs ++ x ∷ []) ≡ update (busy_of xs) x.port (update (busy_of xs x.port) x.tag (Some x.bank))
busy_pushed xs x free = fun_ext (λ p. at p (x.port == p) refl)
  where
    at : (p : ℕ) (b : Bool) → (x.port == p) ≡ b → busy_of (xs ++ x ∷ []) p
        ≡ cond b (update (busy_of xs x.port) x.tag (Some x.bank)) (busy_of xs p)
    at p false e = fun_ext (λ t. append_at xs x p t ∙ ap (λ k. or_else (busy_of xs p t)
        (cond (k && x.tag == t) (Some x.bank) None)) e ∙ or_none (busy_of xs p t))
    at p true e = fun_ext (λ t. append_at xs x p t ∙ ap (λ k. or_else (busy_of xs p t)
        (cond (k && x.tag == t) (Some x.bank) None)) e ∙ inside t (x.tag == t) refl)
      where
        inside : (t : ℕ) (c : Bool) → (x.tag == t) ≡ c → or_else (busy_of xs p t) (cond c (Some x.bank) None)
            ≡ cond c (Some x.bank) (busy_of xs x.port t)
        inside t true f = ap (λ o. or_else o (Some x.bank))
            (ap₂ (busy_of xs) (sym (eqb-true x.port p e)) (sym (eqb-true x.tag t f)) ∙ free)
        inside t false f = or_none (busy_of xs p t) ∙ ap (λ k. busy_of xs k t) (sym (eqb-true x.port p e))

-- ---- those of a tag leave

module _ (port tag : ℕ) where
  abbrev pub is_other : BusyTag → Bool
  is_other b = not (b.port == port) || not (b.tag == tag)

  gone : (xs : List BusyTag) → busy_of (filter is_other xs) port tag ≡ None
  gone [] = refl
  gone (b ∷ xs) = go (b.port == port) (b.tag == tag) refl refl (gone xs)
    where
      go : (i j : Bool) → (b.port == port) ≡ i → (b.tag == tag) ≡ j → busy_of (filter is_other xs) port tag ≡ None
          → busy_of (cond (not i || not j) (b ∷ filter is_other xs) (filter is_other xs)) port tag ≡ None
      go true true e f rest = rest
      go true false e f rest = ap (λ k. cond k (Some b.bank) (busy_of (filter is_other xs) port tag))
          (ap₂ (λ x y. x && y) e f) ∙ rest
      go false j e f rest = ap (λ k. cond k (Some b.bank) (busy_of (filter is_other xs) port tag))
          (ap (λ x. x && b.tag == tag) e) ∙ rest

  stays : (p t : ℕ) → (port == p && tag == t) ≡ false → (xs : List BusyTag) →
      busy_of (filter is_other xs) p t ≡ busy_of xs p t
  stays p t apart [] = refl
  stays p t apart (b ∷ xs) = go (b.port == port) (b.tag == tag) refl refl (stays p t apart xs)
    where
      keep : busy_of (filter is_other xs) p t ≡ busy_of xs p t →
          busy_of (b ∷ filter is_other xs) p t ≡ busy_of (b ∷ xs) p t
      keep rest = ap (cond (b.port == p && b.tag == t) (Some b.bank)) rest

      go : (i j : Bool) → (b.port == port) ≡ i → (b.tag == tag) ≡ j → busy_of (filter is_other xs) p t ≡ busy_of xs p t
          → busy_of (cond (not i || not j) (b ∷ filter is_other xs) (filter is_other xs)) p t ≡ busy_of (b ∷ xs) p t
      go true true e f rest =
          let same : (b.port == p && b.tag == t) ≡ false = ap₂ (λ x y. x == p && y == t) (eqb-true b.port port e)
          (eqb-true b.tag tag f) ∙ apart in
          rest ∙ sym (cond-false (b.port == p && b.tag == t) (Some b.bank) (busy_of xs p t) same)
      go true false e f rest = keep rest
      go false j e f rest = keep rest

  pub busy_dropped : (xs : List BusyTag) → busy_of (filter is_other xs)
      ≡ update (busy_of xs) port (update (busy_of xs port) tag None)
  busy_dropped xs = fun_ext (λ p. at p (port == p) refl)
    where
      at : (p : ℕ) (b : Bool) → (port == p) ≡ b → busy_of (filter is_other xs) p
          ≡ cond b (update (busy_of xs port) tag None) (busy_of xs p)
      at p false e = fun_ext (λ t. stays p t (ap (λ k. k && tag == t) e) xs)
      at p true e = fun_ext (λ t. inside t (tag == t) refl)
        where
          inside : (t : ℕ) (c : Bool) → (tag == t) ≡ c → busy_of (filter is_other xs) p t
              ≡ cond c None (busy_of xs port t)
          inside t true f = ap₂ (busy_of (filter is_other xs)) (sym (eqb-true port p e)) (sym (eqb-true tag t f))
              ∙ gone xs
          inside t false f = stays p t (ap₂ (λ x y. x && y) e f) xs ∙ ap (λ k. busy_of xs k t) (sym (eqb-true port p e))

-- ---- whether none is busy

is_none_if : {X : Type 0} (o : Option X) → o ≡ None → is_none o ≡ true
is_none_if None e = refl
is_none_if (Some x) e = cc

pub none_if : {X : Type 0} (o : Option X) → is_none o ≡ true → o ≡ None
none_if None e = refl
none_if (Some x) e = cc

pub all_free : (tags : ℕ) (busy : List BusyTag) (port : ℕ) → ((k : ℕ) → k < tags → busy_of busy port k ≡ None) →
    true ≡ none_busy tags (busy_of busy port)
all_free tags busy port free = sym (all_range (λ tag. is_none (busy_of busy port tag)) 0 tags
    (λ i le lt. is_none_if (busy_of busy port i) (free i (omega (arith, lt)))))

pub one_taken : (tags : ℕ) (busy : List BusyTag) (port k : ℕ) → k < tags → false ≡ is_none (busy_of busy port k) →
    false ≡ none_busy tags (busy_of busy port)
one_taken tags busy port k lt e = not_all (λ tag. is_none (busy_of busy port tag)) 0 tags k (omega arith)
    (omega (arith, lt)) e
