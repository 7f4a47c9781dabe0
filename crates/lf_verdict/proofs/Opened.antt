-- The parts of a trace before its first record.
use Rattle.std.proofs.Common.{◌≡◌, ℕ, zero, suc, ◌+◌, ◌<◌, List, [], ◌∷◌, ◌++◌, map, length, get_or, refl, sym, ap}
use Rattle.std.proofs.Common.{◌∙◌, subst, inl, inr, arith}
use Rattle.std.specs.Prelude.{replicate}
use Rattle.std.specs.List.{range_with_len}
use Rattle.std.proofs.Math.Seq.{get_or-append_seam}
use Rattle.std.proofs.lemmas.Bool.{cases_lt}
use Rattle.std.proofs.lemmas.List.{length-append, get_or_append_left}
use Rattle.lf_rules.specs.Ring.{skeletons_of}
use Rattle.lf_rules.specs.Run.{of_log}

last_of : {X : Type 0} (xs : List X) (x d : X) (n : ℕ) → n ≡ length xs → get_or (xs ++ x ∷ []) n d ≡ x
last_of xs x d n e = rw e (get_or-append_seam xs x [] d)

-- one more at the end, of which the same holds
pub each_more : {X : Type 0} (P : ℕ → X → Type 0) (xs ys : List X) (n : ℕ) (x : X) → length xs ≡ n →
    ys ≡ xs ++ x ∷ [] → ((k : ℕ) (d : X) → k < n → P k (get_or xs k d)) → P n x
    → (length ys ≡ n + 1) × ((k : ℕ) (d : X) → k < n + 1 → P k (get_or ys k d))
each_more {X = X} P xs ys n x long is each here = (
  ap length is ∙ length-append xs (x ∷ []) ∙ ap (λ m. m + 1) long,
  λ k d lt. elim (cases_lt k n) [
    | inl below ↦
        let short : k < length xs = omega (arith, long) in
        subst (P k) (sym (ap (λ (zs : List X). get_or zs k d) is ∙ get_or_append_left xs (x ∷ []) d k short))
        (each k d below)
    | inr above ↦
        let same : k ≡ n = omega arith in
        subst (λ m. P m (get_or ys k d)) (sym same) (subst (P n)
        (sym (ap (λ (zs : List X). get_or zs k d) is ∙ last_of xs x d k (same ∙ sym long))) here)
  ],
)

pub no_entries : (a n : ℕ) → replicate {A = List (ℕ × ℕ)} n []
    ≡ skeletons_of (map (λ log. of_log log []) (range_with_len a n))
no_entries a zero = refl
no_entries a (suc n) = ap (λ (ls : List (List (ℕ × ℕ))). [] ∷ ls) (no_entries (a + 1) n)

pub nothing_at : {X : Type 0} (n k : ℕ) → get_or (replicate {A = List X} n []) k [] ≡ []
nothing_at zero k = refl
nothing_at (suc n) zero = refl
nothing_at (suc n) (suc k) = nothing_at n k

pub length-nothing : (X : Type 0) (n : ℕ) → length (replicate {A = List X} n []) ≡ n
length-nothing X zero = refl
length-nothing X (suc n) = omega (arith, length-nothing X n)
