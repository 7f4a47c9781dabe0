-- A memory in two parts, of which the second is looked at where the first has nothing.
use Rattle.std.proofs.Common.{◌≡◌, ℕ, Bool, true, false, cond, List, [], ◌++◌, Option, Some, None, refl, sym, ap, ◌∙◌}
use Rattle.std.proofs.Common.{slice_index, eqb-true, not, is_some}
use mathlib.Core.Path.{fun_ext}
use Rattle.std.specs.List.{filter}
use Rattle.std.proofs.lemmas.Map.Entries.{lookup-filter-keys}
use denote.Bor.{Bor}
use Rattle.std.specs.Prelude.{unwrap_or, nat_eq, option_copied}
use Rattle.lf_rules.specs.State.{update}
use Rattle.bank_state.specs.Bytes.{flat_of}
use Rattle.bank_state.specs.Near.{IsWith}
use Rattle.bank_state.proofs.Bytes.{flat_put}
use Rattle.bank_state.proofs.NearBlocks.{at, or_else, lookup-append}

module _ (near far : List (ℕ × List ℕ)) where
  pub near_bytes : (q : ℕ) (bytes : List ℕ) → at q near ≡ Some bytes → flat_of (near ++ far) q ≡ slice_index bytes
  near_bytes q bytes is = ap (λ (o : Option (List ℕ)). slice_index (unwrap_or o []))
      (lookup-append q near far ∙ ap (λ (o : Option (List ℕ)). or_else o (at q far)) is)

  pub far_bytes : (q : ℕ) → at q near ≡ None → flat_of (near ++ far) q ≡ flat_of far q
  far_bytes q none = ap (λ (o : Option (List ℕ)). slice_index (unwrap_or o []))
      (lookup-append q near far ∙ ap (λ (o : Option (List ℕ)). or_else o (at q far)) none)

  -- a block's bytes, written in one of the parts
  pub near_put : (next : List (ℕ × List ℕ)) (block : ℕ) (bytes : List ℕ)
      → ((q : ℕ) → at q next ≡ cond (nat_eq block q) (Some bytes) (at q near))
      → flat_of (next ++ far) ≡ update (flat_of (near ++ far)) block (slice_index bytes)
  near_put next block bytes written = flat_put (near ++ far) (next ++ far) block bytes (λ q.
      lookup-append q next far ∙ ap (λ (o : Option (List ℕ)). or_else o (at q far)) (written q)
      ∙ split (nat_eq block q) (at q near) (at q far)
      ∙ ap (cond (nat_eq block q) (Some bytes)) (sym (lookup-append q near far)))
    where
      split : (b : Bool) (o p : Option (List ℕ)) → or_else (cond b (Some bytes) o) p
          ≡ cond b (Some bytes) (or_else o p)
      split true o p = refl
      split false o p = refl

  pub far_put : (next : List (ℕ × List ℕ)) (block : ℕ) (bytes : List ℕ) → at block near ≡ None
      → ((q : ℕ) → at q next ≡ cond (nat_eq block q) (Some bytes) (at q far))
      → flat_of (near ++ next) ≡ update (flat_of (near ++ far)) block (slice_index bytes)
  far_put next block bytes none written = flat_put (near ++ far) (near ++ next) block bytes (λ q.
      lookup-append q near next ∙ ap (or_else (at q near)) (written q)
      ∙ split q (nat_eq block q) refl
      ∙ ap (cond (nat_eq block q) (Some bytes)) (sym (lookup-append q near far)))
    where
      split : (q : ℕ) (b : Bool) → nat_eq block q ≡ b → or_else (at q near) (cond b (Some bytes) (at q far))
          ≡ cond b (Some bytes) (or_else (at q near) (at q far))
      split q true same = ap (λ (o : Option (List ℕ)). or_else o (Some bytes))
          (ap (λ k. at k near) (sym (eqb-true block q same)) ∙ none)
      split q false other = refl

-- ---- blocks that go from the second part to the first

same_blocks : (old new : List (ℕ × List ℕ)) → ((q : ℕ) → at q new ≡ at q old) → flat_of new ≡ flat_of old
same_blocks old new same = fun_ext (λ q. ap (λ (o : Option (List ℕ)). slice_index (unwrap_or o [])) (same q))

pub copied : (near next far : List (ℕ × List ℕ)) (block : ℕ) (bytes : List ℕ) → at block near ≡ None →
    at block far ≡ Some bytes → (b : Bool) → (b ≡ true → IsWith near block bytes next)
    → ((b ≡ true → ⊥) → next ≡ near) → flat_of (next ++ far) ≡ flat_of (near ++ far)
copied near next far block bytes none there true added other = same_blocks (near ++ far) (next ++ far) (λ q.
    lookup-append q next far ∙ ap (λ (o : Option (List ℕ)). or_else o (at q far)) (added refl q)
    ∙ split q (nat_eq block q) refl ∙ sym (lookup-append q near far))
  where
    split : (q : ℕ) (b : Bool) → nat_eq block q ≡ b
        → or_else (cond b (Some bytes) (at q near)) (at q far) ≡ or_else (at q near) (at q far)
    split q true same =
        sym there ∙ ap (λ k. at k far) (eqb-true block q same)
        ∙ ap (λ (o : Option (List ℕ)). or_else o (at q far)) (sym (ap (λ k. at k near)
        (sym (eqb-true block q same)) ∙ none))
    split q false apart = refl
copied near next far block bytes none there false added other =
    ap (λ (ns : List (ℕ × List ℕ)). flat_of (ns ++ far)) (other (λ e. absurd (cc)))

-- whether a block is not in these
abbrev pub is_absent : List (ℕ × List ℕ) → ℕ → Bool
is_absent near q = not (is_some (at q near))

pub dropped : (near far kept : List (ℕ × List ℕ)) → kept ≡ filter (λ e. is_absent near e.0) far →
    flat_of (near ++ kept) ≡ flat_of (near ++ far)
dropped near far kept is =
    ap (λ (ks : List (ℕ × List ℕ)). flat_of (near ++ ks)) is
    ∙ same_blocks (near ++ far) (near ++ filter (λ e. is_absent near e.0) far) (λ q.
    lookup-append q near (filter (λ e. is_absent near e.0) far)
    ∙ ap (or_else (at q near)) (lookup-filter-keys (nat_eq q) (is_absent near) (is_absent near q)
    (λ k same. ap (is_absent near) (sym (eqb-true q k same))) far)
    ∙ split (at q near) (at q far) ∙ sym (lookup-append q near far))
  where
    split : (o p : Option (List ℕ)) → or_else o (cond (not (is_some o)) p None) ≡ or_else o p
    split None p = refl
    split (Some bytes) p = refl

-- a search that gives nothing
pub none_found : (o : Option (Bor (List ℕ))) (p : Option (List ℕ)) → option_copied o ≡ p → is_some o ≡ false → p ≡ None
none_found None p is none = sym is
none_found (Some x) p is none = absurd (cc)
