-- Counts of the lines of sets, one of which is written.
use Rattle.std.proofs.Common.{◌≡◌, ℕ, ◌+◌, ◌-◌, ◌<◌, ◌==◌, Bool, true, false, cond, List, length, get_or, refl, ap}
use Rattle.std.proofs.Common.{sym, ◌∙◌}
use Rattle.std.proofs.Common.{eqb-true, eq-eqb, get_or-set_same, get_or-set_other}
use Rattle.std.specs.Prelude.{slice_index, slice_set, nat_lt}
use Rattle.std.proofs.lemmas.Bool.{lt-ltb}
use Rattle.std.proofs.lemmas.List.{get_or_default}
use mathlib.Core.Path.{fun_ext}
use Rattle.lf_rules.specs.State.{update}

pub count_set : (counts : List ℕ) (at n : ℕ) → at < length counts →
    slice_index (slice_set counts at n) ≡ update (slice_index counts) at n
count_set counts at n inside = fun_ext (λ q. go q (at == q) refl)
  where
    go : (q : ℕ) (b : Bool) → (at == q) ≡ b → slice_index (slice_set counts at n) q ≡ cond b n (slice_index counts q)
    go q true e = ap (slice_index (slice_set counts at n)) (sym (eqb-true at q e))
        ∙ get_or-set_same counts at n 0 inside
    go q false e = get_or-set_other counts at q n 0 (λ same. let equal = eq-eqb at q (sym same) in absurd (cc))

-- the count that is read at a place is that of the set
count_read : (counts : List ℕ) (at set n : ℕ) → at < length counts → at ≡ set → n ≡ get_or counts at n →
    n ≡ slice_index counts set
count_read counts at set n inside same is = is ∙ get_or_default counts at n 0 inside ∙ ap (slice_index counts) same

-- a set has room where its count is below the ways
pub count_room : (counts : List ℕ) (at set n ways : ℕ) → at < length counts → at ≡ set → n ≡ get_or counts at n →
    n < ways → nat_lt (slice_index counts set) ways ≡ true
count_room counts at set n ways inside same is room =
    ap (λ m. nat_lt m ways) (sym (count_read counts at set n inside same is)) ∙ lt-ltb n ways room

-- one line more, and one fewer
pub count_more : (counts : List ℕ) (at set n : ℕ) → at < length counts → at ≡ set → n ≡ get_or counts at n →
    slice_index (slice_set counts at (n + 1)) ≡ update (slice_index counts) set (slice_index counts set + 1)
count_more counts at set n inside same is = count_set counts at (n + 1) inside
    ∙ (λ i. update (slice_index counts) (same i) (count_read counts at set n inside same is i + 1))

pub count_less : (counts : List ℕ) (at set n less : ℕ) → at < length counts → at ≡ set → n ≡ get_or counts at n →
    less ≡ n - 1 → slice_index (slice_set counts at less) ≡ update (slice_index counts) set (slice_index counts set - 1)
count_less counts at set n less inside same is one = count_set counts at less inside
    ∙ (λ i. update (slice_index counts) (same i) (one i))
    ∙ (λ i. update (slice_index counts) set (count_read counts at set n inside same is i - 1))
