-- How the machine keeps an `Unboxed` and a `Held`: an address and a handle. `_out` takes what one owns apart, `_in`
-- puts
-- it together again, and `_good` says that its machine value has the type.
use Rattle.std.proofs.Common.{◌≡◌, ℕ, List, [], ◌∷◌, ◌++◌, refl, subst}
use mathlib.Core.Bool.{true, ◌&&◌}
use lib.Dec.{T, lit<}
use seplogic.Ra.Ura.{Ura}
use mir.Syntax.{impl, tnil, dnil}
use mir.Raw.{raw as bare}
use mir.Val.{Val, vptr, vstruct, vcons, vnil, of_list, has_ty, WT}
use base.Logic.{never, fst∗}
use types.Logic.{Logic, sem}
use types.Kit.{Item, Goal, Seq, Step, step, ‵, ◌$◌, move, drop, fsplit, fjoin, fpick, fpack, rewrite, feq_i, feq_l}
use denote.RattleType.{RattleType, Valss}
use denote.Builtin.{RawPtr}
use denote.Memory.{lone}
use denote.RawPtr.{Ptr, block_ptr, null_ptr, ptr_val, in_a_block}
use denote.Steps.{nothing}
use denote.Param.{layout}
use denote.Param.Laws.{Laws}
use denote.Struct.Struct.{within}
use denote.Struct.Owning.{shape, to}
use Rattle.core.specs.declared.alloc.Allocator.{Ghosts}
use Rattle.core.proofs.alloc.Calls.{Al, handle_tells}
use Rattle.core.proofs.cell.Inside.{Good}
use Rattle.std_alloc.specs.Box.Ownership.{box_owns}
use Rattle.std_alloc.proofs.ResultValues.{and_tt}
use Rattle.std.specs.Prelude.{Option, Some, None}
use Rattle.std.specs.contracts.alloc.Global as heap
use Rattle.std.proofs.alloc.Global.TheLaws as heap_laws
use Rattle.std.specs.contracts.impls.GlobalAllocator.TheImpl.{ghosts}
use Rattle.library_c.specs.Held.{held_owns}
use Rattle.lf_verdict.specs.contracts.session.Session as session
use Rattle.library_c.specs.contracts.held.Held as held
use Rattle.library_c.specs.contracts.unboxed.Unboxed as unboxed

-- the machine value of an address and a handle
abbrev pub word : Val → Val → Val
word at handle = vstruct (vcons at (vcons handle vnil))

-- a word's parts are those that its fields were stored as
pub word_is : {at ats : List Val} {h : Val} {hs vs : List Val} → vs ≡ vstruct (of_list (ats ++ (hs ++ []))) ∷ [] →
    ats ≡ at → hs ≡ h ∷ []
    → vs ≡ vstruct (of_list (at ++ (h ∷ []))) ∷ []
word_is {at} {ats} {h} {hs} {vs} whole first second =
    subst (λ (xs : List Val). vs ≡ vstruct (of_list (xs ++ (h ∷ []))) ∷ []) first
    (subst (λ (xs : List Val). vs ≡ vstruct (of_list (ats ++ (xs ++ []))) ∷ []) second whole)

-- ---- an `Unboxed`

module _ (R Z : RattleType) (L : Laws Z) (g : Ghosts Z.Denot) where
  abbrev pub Unboxed : RattleType
  Unboxed = unboxed.the_row R Z g

  abbrev allocator : Al
  allocator = record { row = Z; laws = L; g = g; d = impl [] tnil dnil; drops = impl [] tnil dnil }

  pub unboxed_good : (b o : ℕ) (h : Val) → Good (layout Z) h → T (has_ty (layout Z) h && true) × WT (word (vptr b o) h)
  unboxed_good b o h good = (and_tt (has_ty (layout Z) h) good.0, (tt, (good.1, tt)))

  module _ {M : Type 1} {𝓤 : Ura M} {𝓛 : Logic 𝓤} {K : Type 0} {Γ : List (Item 𝓤)} {G : Goal 𝓤 𝓛.H} where
    -- nothing lies at null, so the address is that of a block
    pub unboxed_out : K → (u : Unboxed.Denot) (vs : List Val)
        → ((b o : ℕ) (h : Val) → u.at ≡ block_ptr b o → vs ≡ word (vptr b o) h ∷ [] → Good (layout Z) h
        → Seq K 𝓛 (‵ (box_owns (g.dealloc_token u.alloc) R (block_ptr b o) u.value) ∷ ‵ (Z.own_val u.alloc (h ∷ []))
        ∷ Γ) G)
        → Seq K 𝓛 (‵ (Unboxed.own_val u vs) ∷ Γ) G
    unboxed_out t u vs next =
        fsplit t $ fpick t (λ parts. fsplit t $ feq_l t (λ whole. fsplit t $ feq_l t (λ first. fsplit t $
        handle_tells allocator t u.alloc parts.1.0 (λ h second good. move t (1 ∷ []) $ drop t $ move t (1 ∷ []) $
        in_a_block t u.at (λ p. box_owns (g.dealloc_token u.alloc) R p u.value)
        (fst∗ 𝓤 (never 𝓤) (sem 𝓛 (g.dealloc_token u.alloc (bare (lone R.mir)) null_ptr))) (λ b o is.
        next b o h is
        (subst (λ (p : Ptr). vs ≡ word (ptr_val p) h ∷ []) is (word_is whole first second)) good)))))

    pub unboxed_in : K → (b o : ℕ) (h : Val) (a : Z.Denot) (x : R.Denot)
        → Step K 𝓛 (‵ (Unboxed.own_val (record { at = block_ptr b o; alloc = a; value = x }) (word (vptr b o) h ∷ []))
        ∷ Γ) G
        (‵ (box_owns (g.dealloc_token a) R (block_ptr b o) x) ∷ ‵ (Z.own_val a (h ∷ [])) ∷ Γ) G
    unboxed_in t b o h a x = step (λ rest.
        let w : Val = word (vptr b o) h in
        nothing t $ move t (2 ∷ 0 ∷ []) $ fjoin t $
        feq_i t (List Val) (vptr b o ∷ []) (vptr b o ∷ []) refl $ fjoin t $
        feq_i t (List Val) (w ∷ []) (w ∷ []) refl $ fjoin t $
        fpack t (Valss (RawPtr ∷ Z ∷ [])) (within (shape (unboxed.the_type R Z g)) (block_ptr b o, (a, tt)) (w ∷ []))
        (vptr b o ∷ [], (h ∷ [], tt)) $ fjoin t $ rest)

-- ---- a `Held`

abbrev pub Row : RattleType
Row = session.the_row

abbrev pub Z : RattleType
Z = heap.the_row

abbrev pub LZ : Laws Z
LZ = heap_laws.the_row_laws

abbrev pub Held : RattleType
Held = held.the_row

abbrev pub global : Al
global = allocator Row Z LZ ghosts

pub held_good : (p : Ptr) (h : Val) → Good (layout Z) h → T (has_ty (layout Z) h && true) × WT (word (ptr_val p) h)
held_good (block_ptr b o) h good = (and_tt (has_ty (layout Z) h) good.0, (tt, (good.1, tt)))
held_good null_ptr h good = (and_tt (has_ty (layout Z) h) good.0, (record { fits = lit< tt }, (good.1, tt)))

module _ {M : Type 1} {𝓤 : Ura M} {𝓛 : Logic 𝓤} {K : Type 0} {Γ : List (Item 𝓤)} {G : Goal 𝓤 𝓛.H} where
  pub held_out : K → (d : Held.Denot) (vs : List Val) (x : Row.Denot) → d.session ≡ Some x
      → ((b o : ℕ) (h : Val) → d.at ≡ block_ptr b o → vs ≡ word (vptr b o) h ∷ [] → Good (layout Z) h
      → Seq K 𝓛 (‵ (box_owns (ghosts.dealloc_token d.alloc) Row (block_ptr b o) x) ∷ ‵ (Z.own_val d.alloc (h ∷ []))
      ∷ Γ) G)
      → Seq K 𝓛 (‵ (Held.own_val d vs) ∷ Γ) G
  held_out t d vs x there next =
      fsplit t $ fpick t (λ parts. fsplit t $ feq_l t (λ whole. fsplit t $ feq_l t (λ first. fsplit t $
      handle_tells global t d.alloc parts.1.0 (λ h second good. move t (1 ∷ []) $ drop t $ move t (1 ∷ []) $
      rewrite t 0 (λ (y : Option Row.Denot). ‵ (held_owns Row d.alloc d.at y)) there refl $
      in_a_block t d.at (λ p. box_owns (ghosts.dealloc_token d.alloc) Row p x)
      (fst∗ 𝓤 (never 𝓤) (sem 𝓛 (ghosts.dealloc_token d.alloc (bare (lone Row.mir)) null_ptr))) (λ b o is.
      next b o h is
      (subst (λ (p : Ptr). vs ≡ word (ptr_val p) h ∷ []) is (word_is whole first second)) good)))))

  pub held_in : K → (p : Ptr) (h : Val) (a : Z.Denot) (y : Option Row.Denot)
      → Step K 𝓛 (‵ (Held.own_val (record { at = p; alloc = a; session = y }) (word (ptr_val p) h ∷ [])) ∷ Γ) G
      (‵ (held_owns Row a p y) ∷ ‵ (Z.own_val a (h ∷ [])) ∷ Γ) G
  held_in t p h a y = step (λ rest.
      let w : Val = word (ptr_val p) h in
      nothing t $ move t (2 ∷ 0 ∷ []) $ fjoin t $
      feq_i t (List Val) (ptr_val p ∷ []) (ptr_val p ∷ []) refl $ fjoin t $
      feq_i t (List Val) (w ∷ []) (w ∷ []) refl $ fjoin t $
      fpack t (Valss (RawPtr ∷ Z ∷ [])) (within (shape held.the_type)
      (to held.the_type (record { at = p; alloc = a; session = y })) (w ∷ []))
      (ptr_val p ∷ [], (h ∷ [], tt)) $ fjoin t $ rest)
