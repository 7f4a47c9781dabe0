-- Whether none of the tags of a port is busy.
use Rattle.std.proofs.Common.{◌≡◌, ℕ, zero, suc, ◌+◌, ◌<◌, ◌≤◌, Bool, true, false, ◌&&◌, Option, Some, None, is_some}
use Rattle.std.proofs.Common.{is_none, inl, inr, sym, ap, ◌∙◌, arith, refl}
use mathlib.Core.Path.{ap₂}
use Rattle.std.specs.List.{list_all, range_with_len}
use Rattle.std.proofs.lemmas.Bool.{cases_eq}
use Rattle.lf_rules.specs.Table.{none_busy}

all_from : (p : ℕ → Bool) (a n : ℕ) → ((k : ℕ) → k < a + n → p k ≡ true) → list_all p (range_with_len a n) ≡ true
all_from p a zero h = refl
all_from p a (suc n) h = ap₂ (λ b c. b && c) (h a (omega arith))
    (all_from p (a + 1) n (λ k lt. h k (omega (arith, lt))))

pub all_free : (tags : ℕ) (busy : ℕ → Option ℕ) → ((k : ℕ) → k < tags → busy k ≡ None) → true ≡ none_busy tags busy
all_free tags busy free = sym (all_from (λ tag. is_none (busy tag)) 0 tags
    (λ k lt. ap is_none (free k (omega (arith, lt)))))

not_all : (p : ℕ → Bool) (a n k : ℕ) → a ≤ k → k < a + n → p k ≡ false → list_all p (range_with_len a n) ≡ false
not_all p a zero k le lt e = absurd (omega (arith, le, lt))
not_all p a (suc n) k le lt e =
    (elim (cases_eq a k) [
      | inl same ↦ ap (λ b. b && list_all p (range_with_len (a + 1) n)) (ap p same ∙ e)
      | inr apart ↦ both (p a) (not_all p (a + 1) n k (omega (arith, le, apart)) (omega (arith, lt)) e)
    ])
  where
    both : (b : Bool) {c : Bool} → c ≡ false → (b && c) ≡ false
    both true e = e
    both false e = refl

pub one_taken : (tags : ℕ) (busy : ℕ → Option ℕ) (k : ℕ) → k < tags → is_none (busy k) ≡ false →
    false ≡ none_busy tags busy
one_taken tags busy k lt e = sym (not_all (λ tag. is_none (busy tag)) 0 tags k (omega arith) (omega (arith, lt)) e)

pub none_if : {X : Type 0} (o : Option X) → is_some o ≡ false → o ≡ None
none_if None e = refl
none_if (Some x) e = cc

pub some_if : {X : Type 0} (o : Option X) → is_some o ≡ true → is_none o ≡ false
some_if None e = cc
some_if (Some x) e = refl
