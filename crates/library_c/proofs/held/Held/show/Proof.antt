-- `show` says again of what type the value at the address is.
use Rattle.std.proofs.Common.{List, [], ◌∷◌, ◌++◌, refl, sym, subst, ◌≡◌}
use mir.Val.{Val, vptr}
use base.Logic.{SProp, ent, emp, id⊢}
use base.Fml.{ftrue}
use prog.Wp.{WpFn}
use types.Kit.{‵, raw, ◌⊛◌, ◌$◌, ◌∵◌, !, qed, by, move, keep, split, fsplit, fjoin, suffices, use0}
use types.Run.{stop, fld, of_opd, no_more, and_then, returns, enter}
use types.ByLocal.{alloc_all, pass_all, free_all, look_at, get, get_in, sets}
use types.Part.{agg, sub, whole}
use contract.Monad.{fact, fact_i}
use contract.Running.{tables}
use denote.Exit.{yes}
use denote.RattleType.{owns}
use denote.Signature.{types_at, plain}
use denote.RawPtr.{block_ptr}
use denote.Steps.{nothing, heard}
use denote.Triple.Walked.{Stays, stay_dropped, walk_of, Goes-dropped}
use Rattle.std.proofs.raw_atomic.Walks.{proved_at, leaves}
use Rattle.std.specs.Prelude.{Option, Some, None, IsSome}
use Rattle.std.specs.contracts.impls.GlobalAllocator.TheImpl.{ghosts}
use Rattle.library_c.proofs.Values.{word, unboxed_good, unboxed_in, Row, Z, LZ, Held, held_out}
use Rattle.library_c.specs.contracts.held.Held.show.{ended, clauses}
use Rattle.library_c.specs.contracts.held.Held.show.Key as key
use Rattle.library_c.proofs.held.Held.show.Statement.{statement}
use Rattle.library_c.proofs.held.Held.show.Code as code

the_value : {X : Type 0} (o : Option X) → IsSome o → (x : X) × (o ≡ Some x)
the_value None there = absurd (cc)
the_value (Some x) there = (x, refl)

abbrev stayed : Stays (ended.signature).params ended.kept
stayed = (stay_dropped (plain (λ _. Held)) yes, tt)

pub show_spec : {M : Type 1} → statement M
show_spec 𝓤 𝓛 𝓜 𝓡 wired =
    let c = clauses 𝓛 𝓜.mem 𝓡.returns in let 𝓣 = tables 𝓤 𝓛.H 𝓜 𝓡 𝓡.env in
    proved_at 𝓛 ended stayed c 𝓜 𝓡 (Goes-dropped 𝓛 0 (plain (λ _. Held)) yes (λ κs x f. refl), tt)
    key.name code.function (code.unfolded 𝓤 𝓛.H 𝓜 𝓡 wired) (λ z are.
    let held = z.0.3.0 in
    let Post : Val → SProp 𝓤 = (walk_of 𝓛 ended stayed c).post z in
    let Runs : List Val → SProp 𝓤 = λ ws. WpFn 𝓤 𝓛.H 𝓣.C 𝓣.Λ code.function ws Post in
    qed 𝓛 ((‵ ftrue ⊛ ‵ (owns (types_at (ended.signature).params z.0.0) z.0.3 z.0.4))
    ∷ raw (fact 𝓤 (IsSome held.session)) ∷ []) ∵
    move ! (1 ∷ []) $ heard ! (IsSome held.session) (λ there. let x = the_value held.session there in
    split ! $ move ! (1 ∷ []) $ fsplit ! $ held_out ! held z.0.4.0 x.0 x.1 (λ b o h at is good.
    let w : Val = word (vptr b o) h in let fits = unboxed_good Row Z LZ ghosts b o h good in
    suffices ! (Runs (w ∷ [])) (subst (λ (us : List Val). ent 𝓤 (Runs (w ∷ [])) (Runs us)) (sym (λ i. is i ++ []))
    (id⊢ 𝓤 (Runs (w ∷ [])))) $
    enter ! 𝓣.C 𝓣.Λ code.function (w ∷ []) Post $ alloc_all ! (λ l. pass_all ! refl (fits, tt) $
    sets ! (of_opd ! (get_in ! (fld ! refl (stop !)) (sub ! 0 refl (whole !)))) refl (tt, tt) $
    sets ! (of_opd ! (get_in ! (fld ! refl (stop !)) (sub ! 1 refl (whole !)))) refl good $
    sets ! (of_opd ! (get ! refl)) refl (tt, tt) $
    sets ! (agg ! (and_then ! (get ! refl) (and_then ! (get ! refl) (no_more !)))) refl fits $
    unboxed_in Row Z LZ ghosts ! b o h held.alloc x.0 $
    use0 𝓛 (raw (fact 𝓤 (Some x.0 ≡ held.session))) (fact_i 𝓤 (Some x.0 ≡ held.session) (emp 𝓤) (sym x.1)) $
    nothing ! $ nothing ! $ fjoin ! $
    returns ! (look_at ! 0 refl) $ free_all ! refl $ keep ! (4 ∷ 0 ∷ 2 ∷ 1 ∷ []) $
    by ! (leaves 𝓛 ended stayed c z w (record { at = block_ptr b o; alloc = held.alloc; value = x.0 }) (tt, tt)
    (tt, tt))))))
