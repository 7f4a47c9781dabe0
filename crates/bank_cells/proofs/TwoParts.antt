-- Places in two parts, of which the second is looked at where the first has nothing.
use Rattle.std.proofs.Common.{◌≡◌, ℕ, Bool, true, false, cond, List, ◌++◌, Option, Some, None, refl, sym, ap, ◌∙◌}
use Rattle.std.proofs.Common.{eqb-true, not, is_some}
use mathlib.Core.Path.{fun_ext}
use Rattle.std.specs.List.{filter}
use Rattle.std.proofs.lemmas.Map.Entries.{lookup-filter-keys}
use Rattle.std.specs.Prelude.{nat_eq}
use Rattle.lf_rules.specs.State.{update}
use Rattle.bank_cells.specs.Index.{found_in, IsWith}
use Rattle.bank_cells.proofs.Found.{or_else, lookup-append}

module _ (near far : List (ℕ × ℕ)) where
  pub near_found : (q place : ℕ) → found_in near q ≡ Some place → found_in (near ++ far) q ≡ Some place
  near_found q place is = lookup-append q near far ∙ ap (λ (o : Option ℕ). or_else o (found_in far q)) is

  pub far_found : (q : ℕ) → found_in near q ≡ None → found_in (near ++ far) q ≡ found_in far q
  far_found q none = lookup-append q near far ∙ ap (λ (o : Option ℕ). or_else o (found_in far q)) none

  -- the first part has nothing of a block that neither has
  pub near_none : (q : ℕ) → found_in (near ++ far) q ≡ None → found_in near q ≡ None
  near_none q none = split (found_in near q) (sym (lookup-append q near far) ∙ none)
    where
      split : (o : Option ℕ) → or_else o (found_in far q) ≡ None → o ≡ None
      split None e = refl
      split (Some place) e = absurd (cc)

  -- a block that gets a place in one of the parts
  pub near_put : (next : List (ℕ × ℕ)) (block place : ℕ) → IsWith near block place next
      → found_in (next ++ far) ≡ update (found_in (near ++ far)) block (Some place)
  near_put next block place written = fun_ext (λ q.
      lookup-append q next far ∙ ap (λ (o : Option ℕ). or_else o (found_in far q)) (written q)
      ∙ split (nat_eq block q) (found_in near q) (found_in far q)
      ∙ ap (cond (nat_eq block q) (Some place)) (sym (lookup-append q near far)))
    where
      split : (b : Bool) (o p : Option ℕ) → or_else (cond b (Some place) o) p ≡ cond b (Some place) (or_else o p)
      split true o p = refl
      split false o p = refl

  pub far_put : (next : List (ℕ × ℕ)) (block place : ℕ) → found_in near block ≡ None → IsWith far block place next
      → found_in (near ++ next) ≡ update (found_in (near ++ far)) block (Some place)
  far_put next block place none written = fun_ext (λ q.
      lookup-append q near next ∙ ap (or_else (found_in near q)) (written q)
      ∙ split q (nat_eq block q) refl
      ∙ ap (cond (nat_eq block q) (Some place)) (sym (lookup-append q near far)))
    where
      split : (q : ℕ) (b : Bool) → nat_eq block q ≡ b → or_else (found_in near q) (cond b (Some place) (found_in far q))
          ≡ cond b (Some place) (or_else (found_in near q) (found_in far q))
      split q true same = ap (λ (o : Option ℕ). or_else o (Some place))
          (ap (found_in near) (sym (eqb-true block q same)) ∙ none)
      split q false other = refl

-- ---- blocks that go from the second part to the first

pub copied : (near next far : List (ℕ × ℕ)) (block place : ℕ) → found_in near block ≡ None →
    found_in far block ≡ Some place → (b : Bool) → (b ≡ true → IsWith near block place next)
    → ((b ≡ true → ⊥) → next ≡ near) → found_in (next ++ far) ≡ found_in (near ++ far)
copied near next far block place none there true added other = fun_ext (λ q.
    lookup-append q next far ∙ ap (λ (o : Option ℕ). or_else o (found_in far q)) (added refl q)
    ∙ split q (nat_eq block q) refl ∙ sym (lookup-append q near far))
  where
    split : (q : ℕ) (b : Bool) → nat_eq block q ≡ b
        → or_else (cond b (Some place) (found_in near q)) (found_in far q) ≡ or_else (found_in near q) (found_in far q)
    split q true same =
        sym there ∙ ap (found_in far) (eqb-true block q same)
        ∙ ap (λ (o : Option ℕ). or_else o (found_in far q)) (sym (ap (found_in near)
        (sym (eqb-true block q same)) ∙ none))
    split q false apart = refl
copied near next far block place none there false added other =
    ap (λ (ns : List (ℕ × ℕ)). found_in (ns ++ far)) (other (λ e. absurd (cc)))

-- whether a block is not in these
abbrev pub is_absent : List (ℕ × ℕ) → ℕ → Bool
is_absent near q = not (is_some (found_in near q))

pub dropped : (near far kept : List (ℕ × ℕ)) → kept ≡ filter (λ e. is_absent near e.0) far →
    found_in (near ++ kept) ≡ found_in (near ++ far)
dropped near far kept is =
    ap (λ (ks : List (ℕ × ℕ)). found_in (near ++ ks)) is
    ∙ fun_ext (λ q.
    lookup-append q near (filter (λ e. is_absent near e.0) far)
    ∙ ap (or_else (found_in near q)) (lookup-filter-keys (nat_eq q) (is_absent near) (is_absent near q)
    (λ k same. ap (is_absent near) (sym (eqb-true q k same))) far)
    ∙ split (found_in near q) (found_in far q) ∙ sym (lookup-append q near far))
  where
    split : (o p : Option ℕ) → or_else o (cond (not (is_some o)) p None) ≡ or_else o p
    split None p = refl
    split (Some place) p = refl

-- a search that gives nothing
pub none_found : (o p : Option ℕ) → o ≡ p → is_some o ≡ false → p ≡ None
none_found None p is none = sym is
none_found (Some x) p is none = absurd (cc)
